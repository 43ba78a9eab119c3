use Rattle.std.proofs.Common.{◌≡◌, map, take}
use Rattle.pt_machine_parts.specs.Texts.{texts}
use Rattle.pt_machine_parts.specs.Numbered.{numbers_view}
use Rattle.pt_machine_parts.proofs.ports.numbers_of.Given as goal

abbrev pub invariant-loop-name : goal.invariant-loop-name
invariant-loop-name l = l.found.items ≡ map (numbers_view l.numbers) (texts (take l.name-index l.names))
