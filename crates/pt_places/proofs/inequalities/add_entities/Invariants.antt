use Rattle.std.proofs.Common.{◌≡◌, ◌++◌, map, drop}
use Rattle.pt_typing.specs.Views.{inequality_view}
use Rattle.pt_net.specs.Net.{entity_view}
use Rattle.pt_scopes.specs.Valued as valued
use Rattle.pt_frames.specs.Views.{frames_view}
use Rattle.pt_inequalities.specs.Inequalities.{of_entities}
use Rattle.pt_places.proofs.inequalities.add_entities.Given as goal

abbrev pub invariant-loop-number : goal.invariant-loop-number
invariant-loop-number l = map inequality_view l.inequalities.items ++ of_entities (frames_view l.frames) l.number (map entity_view (drop l.number l.entities)) (map valued.entity_view (drop l.number l.values)) ≡ map inequality_view l.fn.inequalities.items ++ of_entities (frames_view l.frames) 0 (map entity_view l.entities) (map valued.entity_view l.values)
