use Rattle.std.proofs.Common.{◌≡◌, ℕ, List, sym, ap, subst, ◌∙◌, map, if◌then◌else◌, Some, IfErr, rules}
use Rattle.std.proofs.lemmas.Result.{IfErr-weaker}
use Rattle.std.specs.Str.{bytes_eq}
use Rattle.pt_value.specs.declared.token.Token.{Token}
use Rattle.pt_value.specs.Token.{value_of}
use Rattle.pt_document.specs.declared.refusal.DocFault.{DocFault}
use Rattle.pt_document.specs.View.{properties_view}
use Rattle.pt_scopes.specs.Names.{held}
use Rattle.pt_scopes.specs.Scopes.{Bindings}
use Rattle.pt_scopes.specs.Frames.{Means}
use Rattle.pt_scopes.specs.Told.{IsToldAt, IsFaultInTurn}
use Rattle.pt_scopes.proofs.Turns.{turn-first, turn-step, turn-fault, turn-last, view-push}
use Rattle.pt_values.proofs.parameters.in_turn.Goals as goal

pub loop-property-init : goal.loop-property-init
loop-property-init c =
    λ around m. turn-first around c.args.frames.now c.args.chain.now c.new-own.result (map value_of c.in_ok-tokens.tokens.items) c.new-own.ensures (ap (map value_of) c.in_ok-tokens.ensures.items) m

pub loop-property-preserved : goal.loop-property-preserved
loop-property-preserved c =
    let v = value_of c.in_ok-token.token in
    let name = c.name_of.result.now in
    let put : (other : List ℕ) → held c.put.new.self other ≡ (if bytes_eq name other then Some v else held c.loop-property.own other) =
    λ other. c.in_ok-put.ensures.ok other ∙ ap (λ (t : Token). if bytes_eq name other then Some (value_of t) else held c.loop-property.own other) c.in_ok-held.ensures.value in
    λ around m.
    turn-step around c.args.frames.now c.args.chain.now c.args.properties.now c.loop-property.property-index c.property-item.result c.loop-property.own (map value_of c.loop-property.tokens.items) c.text_of.result.now c.loop-property-test.true c.property-item.is (c.loop-property.invariant around m) c.text_of.ensures
    c.put.new.self (map value_of c.push.new.self.items) v name c.name_of.ensures c.in_ok-token.ensures.ok put (ap (map value_of) c.in_ok-push.ensures.items ∙ view-push value_of c.loop-property.tokens.items c.in_ok-token.token)

pub returns-in_err-token-clause-told : goal.returns-in_err-token-clause-told
returns-in_err-token-clause-told c =
    let P : DocFault → Type 0 = λ fault. (around : Bindings) → Means c.args.frames.now c.args.chain.now around → IsToldAt c.args.path.now (IsFaultInTurn around (properties_view c.args.properties.now)) fault in
    let fault = c.in_err-token.field-0.0 in
    let told : P fault =
    λ around m. turn-fault around c.args.frames.now c.args.chain.now c.args.properties.now c.loop-property.property-index c.property-item.result c.loop-property.own (map value_of c.loop-property.tokens.items) c.text_of.result.now c.loop-property-test.true c.property-item.is (c.loop-property.invariant around m) c.text_of.ensures c.args.path.now fault c.in_err-token.ensures.told in
    let h = c.from_residual-in_err-token.ensures in
    let same : IfErr c.from_residual-in_err-token.result (λ f. f ≡ fault) = search (rules, h) in
    IfErr-weaker c.from_residual-in_err-token.result (λ f. f ≡ fault) P (λ f e. subst P (sym e) told) same

pub returns-clause-ok : goal.returns-clause-ok
returns-clause-ok c =
    λ around m. turn-last around c.args.frames.now c.args.chain.now c.args.properties.now c.loop-property.property-index c.loop-property.own (map value_of c.loop-property.tokens.items) c.loop-property-test.false (c.loop-property.invariant around m)
