use Rattle.std.proofs.Common.{◌≡◌, ◌++◌, map, drop}
use Rattle.pt_typing.specs.Views.{inequality_view}
use Rattle.pt_document.specs.View.{properties_view}
use Rattle.pt_inequalities.specs.Rows.{seeding}
use Rattle.pt_inequalities.specs.Inequalities.{of_standards}
use Rattle.pt_places.proofs.inequalities.add_standards.Given as goal

abbrev pub invariant-loop-row : goal.invariant-loop-row
invariant-loop-row l = map inequality_view l.inequalities.items ++ of_standards l.place.number l.place.entity.now.class (properties_view l.place.entity.now.parameters.items) (map seeding (drop l.row-index l.rows)) ≡ map inequality_view l.fn.inequalities.items ++ of_standards l.place.number l.place.entity.now.class (properties_view l.place.entity.now.parameters.items) (map seeding l.rows)
