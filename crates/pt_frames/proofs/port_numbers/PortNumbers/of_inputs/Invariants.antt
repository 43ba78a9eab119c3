use Rattle.std.proofs.Common.{◌≡◌, ℕ, List, map, drop}
use Rattle.pt_document.specs.View.{port_view}
use Rattle.pt_frames.specs.Views.{port_numbers}
use Rattle.pt_inequalities.specs.Inequalities.{with_inputs, no_ports}
use Rattle.pt_frames.proofs.port_numbers.PortNumbers.of_inputs.Given as goal

abbrev pub invariant-loop-number : goal.invariant-loop-number
invariant-loop-number l = (name : List ℕ) → with_inputs (port_numbers l.numbers) l.number (map port_view (drop l.number l.ports)) name ≡ with_inputs no_ports 0 (map port_view l.ports) name
