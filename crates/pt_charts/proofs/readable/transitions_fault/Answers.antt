use Rattle.std.proofs.Common.{refl, map, subst}
use Rattle.pt_document.specs.View.{transition_view}
use Rattle.pt_charts.specs.Readable.{transition_texts, texts_of, IsFoundIn}
use Rattle.pt_charts.specs.Views.{scope_view}
use Rattle.pt_charts.proofs.ReadableLaws.{from-next, found-here, found-none}
use Rattle.pt_charts.proofs.readable.transitions_fault.Goals as goal

pub returns-in-Some : goal.returns-in-Some
returns-in-Some c =
    let s = scope_view c.args.scope.now in
    found-here s (λ ts. texts_of (map transition_view ts)) (λ t. transition_texts (transition_view t)) refl (λ t rest. refl) c.args.transitions.now c.loop-transition.transition-index c.transition-item.result c.in-Some.code c.loop-transition-test.true c.transition-item.is
    (subst (IsFoundIn s (transition_texts (transition_view c.transition-item.result))) c.in-Some.is c.in_ok-code.ensures) c.loop-transition.invariant

pub loop-transition-preserved : goal.loop-transition-preserved
loop-transition-preserved c =
    let s = scope_view c.args.scope.now in
    from-next s (λ ts. texts_of (map transition_view ts)) (λ t. transition_texts (transition_view t)) refl (λ t rest. refl) c.args.transitions.now c.loop-transition.transition-index c.transition-item.result c.loop-transition-test.true c.transition-item.is
    (subst (IsFoundIn s (transition_texts (transition_view c.transition-item.result))) c.in_default.is c.in_ok-code.ensures) c.loop-transition.invariant

pub returns : goal.returns
returns c = found-none (scope_view c.args.scope.now) (λ ts. texts_of (map transition_view ts)) (λ t. transition_texts (transition_view t)) refl (λ t rest. refl) c.args.transitions.now c.loop-transition.transition-index c.loop-transition-test.false c.loop-transition.invariant
