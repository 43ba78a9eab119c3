use Rattle.std.proofs.Common.{◌≡◌, map, drop}
use Rattle.std.specs.List.{list_any}
use Rattle.pt_net.specs.Net.{entity_view}
use Rattle.pt_inequalities.specs.ModalScopes.{is_modal}
use Rattle.pt_frames.proofs.entities.has_modal.Given as goal

abbrev pub invariant-loop-entity : goal.invariant-loop-entity
invariant-loop-entity l = list_any is_modal (map entity_view (drop l.entity-index l.entities)) ≡ list_any is_modal (map entity_view l.entities)
