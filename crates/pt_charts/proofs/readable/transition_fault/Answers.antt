use Rattle.std.proofs.Common.{◌++◌, ◌∷◌, [], map, subst}
use Rattle.std.proofs.lemmas.Result.{IfOk-weaker}
use Rattle.pt_document.specs.View.{transition_view}
use Rattle.pt_charts.specs.Readable.{output_text, set_text, IsFoundIn}
use Rattle.pt_charts.specs.Views.{scope_view}
use Rattle.pt_charts.proofs.ReadableLaws.{first-left, first-right, found-behind}
use Rattle.pt_charts.proofs.readable.transition_fault.Goals as goal

pub returns-in-Some : goal.returns-in-Some
returns-in-Some c =
    let s = scope_view c.args.scope.now in
    let t = transition_view c.args.transition.now in
    let guard = subst (λ text. IsFoundIn s (text ∷ []) c.in_ok-code.field-0) c.as_str.ensures c.in_ok-code.ensures in
    first-left s (t.guard ∷ []) (map output_text t.output ++ map set_text t.set) c.in-Some.code (subst (IsFoundIn s (t.guard ∷ [])) c.in-Some.is guard)

pub returns-in-Some-2 : goal.returns-in-Some-2
returns-in-Some-2 c =
    let s = scope_view c.args.scope.now in
    let t = transition_view c.args.transition.now in
    let guard = subst (λ text. IsFoundIn s (text ∷ []) c.in_ok-code.field-0) c.as_str.ensures c.in_ok-code.ensures in
    let output = subst (λ actions. IsFoundIn s (map output_text actions) c.in_ok-code-2.field-0) c.deref.ensures.value c.in_ok-code-2.ensures in
    first-right s (t.guard ∷ []) (map output_text t.output ++ map set_text t.set) c.in-Some-2.code (subst (IsFoundIn s (t.guard ∷ [])) c.in_default.is guard)
    (first-left s (map output_text t.output) (map set_text t.set) c.in-Some-2.code (subst (IsFoundIn s (map output_text t.output)) c.in-Some-2.is output))

pub returns : goal.returns
returns c =
    let s = scope_view c.args.scope.now in
    let t = transition_view c.args.transition.now in
    let guard = subst (λ text. IsFoundIn s (text ∷ []) c.in_ok-code.field-0) c.as_str.ensures c.in_ok-code.ensures in
    let output = subst (λ actions. IsFoundIn s (map output_text actions) c.in_ok-code-2.field-0) c.deref.ensures.value c.in_ok-code-2.ensures in
    IfOk-weaker c.sets_fault.result _ _
    (λ found w.
    found-behind s (t.guard ∷ []) (map output_text t.output ++ map set_text t.set) found (subst (IsFoundIn s (t.guard ∷ [])) c.in_default.is guard)
    (found-behind s (map output_text t.output) (map set_text t.set) found (subst (IsFoundIn s (map output_text t.output)) c.in_default-2.is output)
    (subst (λ actions. IsFoundIn s (map set_text actions) found) c.deref-2.ensures.value w)))
    c.sets_fault.ensures
