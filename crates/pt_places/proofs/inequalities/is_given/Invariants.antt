use Rattle.std.proofs.Common.{◌≡◌, drop}
use Rattle.pt_document.specs.View.{properties_view}
use Rattle.pt_inequalities.specs.Inequalities.{is_given}
use Rattle.pt_places.proofs.inequalities.is_given.Given as goal

abbrev pub invariant-loop-property : goal.invariant-loop-property
invariant-loop-property l = is_given (properties_view l.parameters) l.name ≡ is_given (properties_view (drop l.property-index l.parameters)) l.name
