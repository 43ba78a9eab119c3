use Rattle.std.proofs.Common.{map, subst}
use Rattle.std.proofs.lemmas.Result.{IfOk-weaker}
use Rattle.pt_document.specs.View.{transition_view}
use Rattle.pt_charts.specs.Readable.{texts_of, IsFoundIn}
use Rattle.pt_charts.specs.Views.{scope_view}
use Rattle.pt_charts.proofs.readable.chart_fault.Goals as goal

pub returns : goal.returns
returns c =
    IfOk-weaker c.transitions_fault-found.result _ _
    (λ found w.
    subst (λ s. IsFoundIn s (texts_of (map transition_view c.args.entity.now.transitions.items)) found) c.in_ok-scope.ensures
    (subst (λ ts. IsFoundIn (scope_view c.in_ok-scope.scope) (texts_of (map transition_view ts)) found) c.deref.ensures.value w))
    c.transitions_fault-found.ensures
