use Rattle.std.proofs.Common.{◌≡◌, map, drop}
use Rattle.std.specs.List.{list_any}
use Rattle.pt_document.specs.View.{property_view}
use Rattle.pt_net.specs.Standing.{is_director}
use Rattle.pt_survey.proofs.surveying.has_director.Given as goal

abbrev pub invariant-loop-property : goal.invariant-loop-property
invariant-loop-property l = list_any is_director (map property_view (drop l.property-index l.properties)) ≡ list_any is_director (map property_view l.properties)
