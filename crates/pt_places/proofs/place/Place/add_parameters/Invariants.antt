use Rattle.std.proofs.Common.{◌≡◌, ◌++◌, map, drop}
use Rattle.pt_typing.specs.Views.{inequality_view}
use Rattle.pt_document.specs.View.{properties_view}
use Rattle.pt_scopes.specs.Given.{held_view}
use Rattle.pt_inequalities.specs.Inequalities.{of_parameters}
use Rattle.pt_places.proofs.place.Place.add_parameters.Given as goal

abbrev pub invariant-loop-index : goal.invariant-loop-index
invariant-loop-index l = map inequality_view l.inequalities.items ++ of_parameters l.self.number l.self.entity.now.class (properties_view (drop l.index l.property-items)) (map held_view (drop l.index l.self.values.now.parameters.items)) ≡ map inequality_view l.fn.inequalities.items ++ of_parameters l.self.number l.self.entity.now.class (properties_view l.self.entity.now.parameters.items) (map held_view l.self.values.now.parameters.items)
