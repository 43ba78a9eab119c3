use Rattle.std.proofs.Common.{◌∷◌, [], refl, map, subst}
use Rattle.pt_charts.specs.Readable.{set_text, IsFoundIn}
use Rattle.pt_charts.specs.Views.{scope_view}
use Rattle.pt_charts.proofs.ReadableLaws.{from-next, found-here, found-none}
use Rattle.pt_charts.proofs.readable.sets_fault.Goals as goal

pub returns-in-Some : goal.returns-in-Some
returns-in-Some c =
    let s = scope_view c.args.scope.now in
    let told = subst (λ text. IsFoundIn s (text ∷ []) c.in_ok-code.field-0) c.as_str.ensures c.in_ok-code.ensures in
    found-here s (map set_text) (λ a. set_text a ∷ []) refl (λ a rest. refl) c.args.actions.now c.loop-action.action-index c.action-item.result c.in-Some.code c.loop-action-test.true c.action-item.is
    (subst (IsFoundIn s (set_text c.action-item.result ∷ [])) c.in-Some.is told) c.loop-action.invariant

pub loop-action-preserved : goal.loop-action-preserved
loop-action-preserved c =
    let s = scope_view c.args.scope.now in
    let told = subst (λ text. IsFoundIn s (text ∷ []) c.in_ok-code.field-0) c.as_str.ensures c.in_ok-code.ensures in
    from-next s (map set_text) (λ a. set_text a ∷ []) refl (λ a rest. refl) c.args.actions.now c.loop-action.action-index c.action-item.result c.loop-action-test.true c.action-item.is
    (subst (IsFoundIn s (set_text c.action-item.result ∷ [])) c.in_default.is told) c.loop-action.invariant

pub returns : goal.returns
returns c = found-none (scope_view c.args.scope.now) (map set_text) (λ a. set_text a ∷ []) refl (λ a rest. refl) c.args.actions.now c.loop-action.action-index c.loop-action-test.false c.loop-action.invariant
