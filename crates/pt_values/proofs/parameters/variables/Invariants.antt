use Rattle.std.proofs.Common.{take, map}
use Rattle.std.specs.List.{AllZip}
use Rattle.pt_value.specs.Token.{value_of}
use Rattle.pt_document.specs.View.{properties_view}
use Rattle.pt_scopes.specs.Names.{seen_scope}
use Rattle.pt_scopes.specs.Texts.{HasValue}
use Rattle.pt_scopes.specs.Scopes.{text_of}
use Rattle.pt_values.proofs.parameters.variables.Given as goal

abbrev pub invariant-loop-property : goal.invariant-loop-property
invariant-loop-property l = AllZip (λ p v. HasValue (seen_scope l.seen) (text_of p) v) (properties_view (take l.property-index l.properties)) (map value_of l.tokens.items)
