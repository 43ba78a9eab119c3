use Rattle.std.proofs.Common.{◌≡◌, ℕ, List, length, Some, refl, sym, ap, subst, IfErr, rules}
use Rattle.std.specs.Prelude.{slice_get, Option}
use Rattle.std.proofs.lemmas.Result.{IfErr-weaker}
use Rattle.pt_document.specs.declared.refusal.DocFault.{DocFault}
use Rattle.pt_net.specs.Net as nets
use Rattle.pt_scopes.specs.declared.scopes.Inside.{Inside}
use Rattle.pt_scopes.specs.declared.values.EntityValues.{EntityValues}
use Rattle.pt_scopes.specs.Scopes.{NetTree}
use Rattle.pt_scopes.specs.Valued.{IsFaultOf}
use Rattle.pt_values.specs.Walk.{IsWalk, IsFound}
use Rattle.pt_values.proofs.Walking.{entity-fault, entity-more}
use Rattle.pt_values.proofs.walk.Walk.enter_entity.Goals as goal

pub returns-in_err-inside-clause-told : goal.returns-in_err-inside-clause-told
returns-in_err-inside-clause-told c =
    let w = c.args.self.now in
    let e = nets.entity_view c.args.entity.now in
    let fault = c.in_err-inside.field-0.0 in
    let P : DocFault → Type 0 = λ f. (net : NetTree) → IsWalk net w → slice_get net.entities (length w.entities.items) ≡ Some e → IsFaultOf net f in
    let told : P fault = λ net walk at. entity-fault net w walk e at fault c.in_err-inside.ensures.told in
    let h = c.from_residual.ensures in
    let same : IfErr c.from_residual.result (λ f. f ≡ fault) = search (rules, h) in
    IfErr-weaker c.from_residual.result (λ f. f ≡ fault) P (λ f e. subst P (sym e) told) same

pub returns-in_ok-push-in-Some-clause-walk : goal.returns-in_ok-push-in-Some-clause-walk
returns-in_ok-push-in-Some-clause-walk c =
    let w = c.args.self.now in
    let e = nets.entity_view c.args.entity.now in
    let same : c.in_ok-inside.field-0 ≡ Some (c.in-Some.inside, c.in-Some.values) = search rules in
    let found : IsFound w.scopes e (Some (c.in-Some.inside, c.in-Some.values)) = subst (λ (o : Option (Inside × EntityValues)). IsFound w.scopes e o) same c.in_ok-inside.ensures.ok in
    λ net walk at.
    entity-more net w walk e at record { scopes = c.add_opaque.new.self; entities = c.push.new.self; transparent = w.transparent } c.in-Some.inside c.in-Some.values found
    c.in_ok-add_opaque-in-Some.ensures.frames c.in_ok-add_opaque-in-Some.ensures.opaque (ap (λ v. v.items) c.in_ok-add_opaque-in-Some.ensures.transparent) c.in_ok-push-in-Some.ensures.items refl
