use Rattle.std.proofs.Common.{◌≡◌, ◌++◌, map, drop}
use Rattle.pt_typing.specs.Views.{inequality_view}
use Rattle.pt_inequalities.specs.Inequalities.{of_fields}
use Rattle.pt_places.proofs.place.Place.add_fields.Given as goal

abbrev pub invariant-loop-input : goal.invariant-loop-input
invariant-loop-input l = map inequality_view l.inequalities.items ++ of_fields l.variable l.name (drop l.input-index l.input-items) ≡ map inequality_view l.fn.inequalities.items ++ of_fields l.variable l.name l.input-items
