use Rattle.std.proofs.Common.{◌≡◌, map, take}
use Rattle.pt_machine.specs.Names.{path_of}
use Rattle.pt_machine_parts.specs.Texts.{texts}
use Rattle.pt_machine_parts.specs.Views.{kids_view}
use Rattle.pt_machine_parts.proofs.names.paths.Given as goal

abbrev pub invariant-loop-entity : goal.invariant-loop-entity
invariant-loop-entity l = texts l.found.items ≡ map path_of (kids_view (take l.entity-index l.entities))
