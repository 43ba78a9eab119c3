use Rattle.std.proofs.Common.{◌≡◌, map, take}
use Rattle.pt_machine_parts.specs.Texts.{texts}
use Rattle.pt_machine_parts.specs.Numbered.{numbers_view, some_numbers}
use Rattle.pt_machine_parts.proofs.ports.all_numbers.Given as goal

abbrev pub invariant-loop-name : goal.invariant-loop-name
invariant-loop-name l = some_numbers l.found.items ≡ map (numbers_view l.numbers) (texts (take l.name-index l.names))
