use Rattle.std.proofs.Common.{◌≡◌, ◌+◌, ℕ, List, take, sym, subst, map, rules}
use Rattle.std.specs.List.{AllZip}
use Rattle.pt_value.specs.declared.token.Token.{Token}
use Rattle.pt_value.specs.Value.{Value}
use Rattle.pt_value.specs.Token.{value_of}
use Rattle.pt_document.specs.Document.{PropertyTree}
use Rattle.pt_document.specs.View.{property_view, properties_view}
use Rattle.pt_scopes.specs.Names.{seen_scope}
use Rattle.pt_scopes.specs.Texts.{HasValue}
use Rattle.pt_scopes.specs.Scopes.{text_of}
use Rattle.pt_scopes.specs.Told.{IsToldAt, IsVariableFault}
use Rattle.pt_scopes.proofs.Turns.{view-all}
use Rattle.pt_scopes.proofs.Pushed.{zip-more, variable-fault}
use Rattle.pt_values.proofs.parameters.variables.Goals as goal

pub loop-property-preserved : goal.loop-property-preserved
loop-property-preserved c =
    let R : PropertyTree → Value → Type 0 = λ p v. HasValue (seen_scope c.args.seen.now) (text_of p) v in
    let here : R (property_view c.property-item.result) (value_of c.in_ok-token.token) = subst (λ (ws : List ℕ). HasValue (seen_scope c.args.seen.now) ws (value_of c.in_ok-token.token)) c.text_of.ensures c.in_ok-token.ensures.ok in
    let more = zip-more R property_view value_of c.args.properties.now c.loop-property.property-index c.property-item.result c.loop-property-test.true c.property-item.is c.loop-property.tokens.items c.in_ok-token.token c.loop-property.invariant here in
    subst (λ (ts : List Token). AllZip R (properties_view (take (c.loop-property.property-index + 1) c.args.properties.now)) (map value_of ts)) (sym c.in_ok-push.ensures.items) more

pub returns-in_err-token-clause-told : goal.returns-in_err-token-clause-told
returns-in_err-token-clause-told c =
    let told : IsToldAt c.args.path.now (IsVariableFault (seen_scope c.args.seen.now) (properties_view c.args.properties.now)) c.in_err-token.field-0.0 =
    variable-fault (seen_scope c.args.seen.now) c.args.properties.now c.loop-property.property-index c.property-item.result c.text_of.result.now c.loop-property-test.true c.property-item.is c.text_of.ensures c.args.path.now c.in_err-token.field-0.0 c.in_err-token.ensures.told in
    let h = c.from_residual-in_err-token.ensures in
    search (rules, told, h)

pub returns-clause-ok : goal.returns-clause-ok
returns-clause-ok c =
    let R : PropertyTree → Value → Type 0 = λ p v. HasValue (seen_scope c.args.seen.now) (text_of p) v in
    subst (λ (qs : List PropertyTree). AllZip R qs (map value_of c.loop-property.tokens.items)) (view-all property_view c.args.properties.now c.loop-property.property-index c.loop-property-test.false) c.loop-property.invariant
