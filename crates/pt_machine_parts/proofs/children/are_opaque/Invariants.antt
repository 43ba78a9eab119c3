use Rattle.std.proofs.Common.{◌≡◌, drop}
use Rattle.std.specs.List.{list_all}
use Rattle.pt_machine.specs.Children.{is_opaque}
use Rattle.pt_machine_parts.specs.Views.{kids_view}
use Rattle.pt_machine_parts.proofs.children.are_opaque.Given as goal

abbrev pub invariant-loop-entity : goal.invariant-loop-entity
invariant-loop-entity l = list_all is_opaque (kids_view l.entities) ≡ list_all is_opaque (kids_view (drop l.entity-index l.entities))
