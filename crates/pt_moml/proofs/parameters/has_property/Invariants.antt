use Rattle.std.proofs.Common.{◌≡◌, map, drop}
use Rattle.pt_document.specs.Document.{property_name}
use Rattle.pt_document.specs.View.{properties_view}
use Rattle.pt_document.specs.Names.{is_among}
use Rattle.pt_moml.proofs.parameters.has_property.Given as goal

abbrev pub invariant-loop-property : goal.invariant-loop-property
invariant-loop-property l = is_among (map property_name (properties_view (drop l.property-index l.properties))) l.name ≡ is_among (map property_name (properties_view l.properties)) l.name
