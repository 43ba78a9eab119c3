use Rattle.std.proofs.Common.{◌≡◌, ℕ, List, drop}
use Rattle.pt_machine.specs.Numbers.{with_numbers, number_of}
use Rattle.pt_machine_parts.specs.Texts.{texts}
use Rattle.pt_machine_parts.specs.Numbered.{numbers_view}
use Rattle.pt_machine_parts.proofs.numbers.Numbers.of.Given as goal

abbrev pub invariant-loop-number : goal.invariant-loop-number
invariant-loop-number l = (name : List ℕ) → with_numbers l.number (texts (drop l.number l.names)) (numbers_view l.numbers) name ≡ number_of (texts l.names) name
