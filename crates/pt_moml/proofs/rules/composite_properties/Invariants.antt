use Rattle.std.proofs.Common.{◌≡◌, drop}
use Rattle.pt_moml.specs.Rules as rules
use Rattle.pt_document.specs.View.{properties_view}
use Rattle.pt_moml.proofs.rules.composite_properties.Given as goal

abbrev pub invariant-loop-property : goal.invariant-loop-property
invariant-loop-property l = rules.each (rules.composite_property l.here) (properties_view (drop l.property-index l.properties)) ≡ rules.each (rules.composite_property l.here) (properties_view l.properties)
