use Rattle.std.proofs.Common.{◌≡◌, ℕ, List, map, true, false, sym, ap, subst, ◌∙◌, IfErr, rules}
use Rattle.std.proofs.lemmas.Result.{IfErr-weaker}
use Rattle.pt_value.specs.Token.{value_of}
use Rattle.pt_document.specs.declared.job.Property.{Property}
use Rattle.pt_document.specs.declared.refusal.DocFault.{DocFault}
use Rattle.pt_document.specs.View.{properties_view}
use Rattle.pt_net.specs.Net.{entity_view}
use Rattle.pt_scopes.specs.Given.{held_view}
use Rattle.pt_scopes.specs.Scopes.{is_composite_class}
use Rattle.pt_scopes.specs.Told.{IsToldAt, IsFaultInTurn, IsTurn, IsFaultWhere}
use Rattle.pt_values.proofs.EntityParts.{turn-own, class-own, own-told, class-told}
use Rattle.pt_values.proofs.entity.own_parameters.Goals as goal

pub returns-in_err-own-clause-told : goal.returns-in_err-own-clause-told
returns-in_err-own-clause-told c =
    let e = entity_view c.args.entity.now in
    let fault = c.in_err-own.field-0.0 in
    let P : DocFault → Type 0 = IsFaultWhere c.args.frames.now c.args.chain.now e in
    let is : is_composite_class c.args.entity.now.class ≡ true = sym (ap is_composite_class c.as_str.ensures) ∙ sym c.is_composite_class.ensures ∙ c.if-is_composite_class.true in
    let told : P fault =
    own-told c.args.frames.now c.args.chain.now e is fault
    (λ around m.
    subst (λ (path : List ℕ). IsToldAt path (IsFaultInTurn around (properties_view c.args.entity.now.parameters.items)) fault) c.as_str-path.ensures
    (subst (λ (ps : List Property). IsToldAt c.as_str-path.result.now (IsFaultInTurn around (properties_view ps)) fault) c.deref.ensures.value (c.in_err-own.ensures.told around m))) in
    let h = c.from_residual.ensures in
    let same : IfErr c.from_residual.result (λ f. f ≡ fault) = search (rules, h) in
    IfErr-weaker c.from_residual.result (λ f. f ≡ fault) P (λ f e. subst P (sym e) told) same

pub returns-in_err-values-clause-told : goal.returns-in_err-values-clause-told
returns-in_err-values-clause-told c =
    let e = entity_view c.args.entity.now in
    let fault = c.in_err-values.field-0.0 in
    let P : DocFault → Type 0 = IsFaultWhere c.args.frames.now c.args.chain.now e in
    let is : is_composite_class c.args.entity.now.class ≡ false = sym (ap is_composite_class c.as_str.ensures) ∙ sym c.is_composite_class.ensures ∙ c.if-is_composite_class.false in
    let told : P fault = class-told c.args.frames.now c.args.chain.now e is fault c.in_err-values.ensures.told in
    let h = c.from_residual-in_err-values.ensures in
    let same : IfErr c.from_residual-in_err-values.result (λ f. f ≡ fault) = search (rules, h) in
    IfErr-weaker c.from_residual-in_err-values.result (λ f. f ≡ fault) P (λ f e. subst P (sym e) told) same

pub returns-in_ok-held-clause-ok : goal.returns-in_ok-held-clause-ok
returns-in_ok-held-clause-ok c =
    let e = entity_view c.args.entity.now in
    let vs = map value_of c.in_ok-own.tokens.items in
    let is : is_composite_class c.args.entity.now.class ≡ true = sym (ap is_composite_class c.as_str.ensures) ∙ sym c.is_composite_class.ensures ∙ c.if-is_composite_class.true in
    λ around m.
    turn-own c.args.frames.now c.args.chain.now e around c.in_ok-own.own (map held_view c.in_ok-held.field-0.items) vs is c.in_ok-held.ensures
    (subst (λ (ps : List Property). IsTurn around (properties_view ps) c.args.frames.now c.args.chain.now c.in_ok-own.own vs) c.deref.ensures.value (c.in_ok-own.ensures.ok around m))

pub returns-in_ok-values-clause-ok : goal.returns-in_ok-values-clause-ok
returns-in_ok-values-clause-ok c =
    let e = entity_view c.args.entity.now in
    let is : is_composite_class c.args.entity.now.class ≡ false = sym (ap is_composite_class c.as_str.ensures) ∙ sym c.is_composite_class.ensures ∙ c.if-is_composite_class.false in
    λ around m. class-own c.args.frames.now c.args.chain.now e around c.new.result (map held_view c.in_ok-values.values.items) is c.new.ensures c.in_ok-values.ensures.ok m
