use Rattle.std.proofs.Common.{◌≡◌, ◌++◌, map, drop}
use Rattle.pt_typing.specs.Views.{inequality_view}
use Rattle.pt_places.specs.Views.{types_at}
use Rattle.pt_net.specs.Net.{entity_view}
use Rattle.pt_scopes.specs.Given.{held_view}
use Rattle.pt_inequalities.specs.Inequalities.{of_trees}
use Rattle.pt_places.proofs.place.Place.add_trees.Given as goal

abbrev pub invariant-loop-value : goal.invariant-loop-value
invariant-loop-value l = map inequality_view l.inequalities.items ++ of_trees l.self.number (entity_view l.self.entity.now) (types_at l.self) l.variable (map held_view (drop l.value-index l.value-items)) ≡ map inequality_view l.fn.inequalities.items ++ of_trees l.self.number (entity_view l.self.entity.now) (types_at l.self) l.variable (map held_view l.self.values.now.parameters.items)
