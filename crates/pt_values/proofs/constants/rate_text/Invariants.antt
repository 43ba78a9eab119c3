use Rattle.std.proofs.Common.{◌≡◌, drop, codes}
use Rattle.std.specs.List.{find}
use Rattle.std.specs.Str.{bytes_eq}
use Rattle.pt_document.specs.Document.{property_name}
use Rattle.pt_document.specs.View.{properties_view}
use Rattle.pt_values.proofs.constants.rate_text.Given as goal

abbrev pub invariant-loop-property : goal.invariant-loop-property
invariant-loop-property l = find (λ q. bytes_eq (property_name q) (codes "rate")) (properties_view (drop l.property-index l.port.properties.items)) ≡ find (λ q. bytes_eq (property_name q) (codes "rate")) (properties_view l.port.properties.items)
