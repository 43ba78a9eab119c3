use Rattle.std.proofs.Common.{◌≡◌, ℕ, List, length, Some, refl, sym, ap, subst, IfErr, rules}
use Rattle.std.specs.Prelude.{slice_get}
use Rattle.std.proofs.lemmas.Result.{IfErr-weaker}
use Rattle.pt_document.specs.declared.refusal.DocFault.{DocFault}
use Rattle.pt_net.specs.Net as nets
use Rattle.pt_scopes.specs.Scopes.{NetTree}
use Rattle.pt_scopes.specs.Valued.{IsFaultOf}
use Rattle.pt_values.specs.Walk.{IsWalk}
use Rattle.pt_values.proofs.Walking.{transparent-fault, transparent-more}
use Rattle.pt_values.proofs.walk.Walk.enter_transparent.Goals as goal

pub returns-in_err-inside-clause-told : goal.returns-in_err-inside-clause-told
returns-in_err-inside-clause-told c =
    let w = c.args.self.now in
    let e = nets.transparent_view c.args.composite.now in
    let fault = c.in_err-inside.field-0.0 in
    let P : DocFault → Type 0 = λ f. (net : NetTree) → IsWalk net w → slice_get net.transparent (length w.transparent.items) ≡ Some e → IsFaultOf net f in
    let told : P fault = λ net walk at. transparent-fault net w walk e at fault c.in_err-inside.ensures.told in
    let h = c.from_residual.ensures in
    let same : IfErr c.from_residual.result (λ f. f ≡ fault) = search (rules, h) in
    IfErr-weaker c.from_residual.result (λ f. f ≡ fault) P (λ f e. subst P (sym e) told) same

pub returns-clause-walk : goal.returns-clause-walk
returns-clause-walk c =
    let w = c.args.self.now in
    let e = nets.transparent_view c.args.composite.now in
    λ net walk at.
    transparent-more net w walk e at record { scopes = c.add_transparent.new.self; entities = w.entities; transparent = c.push.new.self } c.in_ok-inside.inside c.in_ok-inside.tokens c.in_ok-inside.ensures.ok
    c.in_ok-add_transparent.ensures.frames (ap (λ v. v.items) c.in_ok-add_transparent.ensures.opaque) c.in_ok-add_transparent.ensures.transparent refl c.in_ok-push.ensures.items
