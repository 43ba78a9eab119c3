use Rattle.std.proofs.Common.{◌+◌, List, map, take, sym, subst}
use Rattle.std.specs.List.{AllZip}
use Rattle.pt_document.specs.View.{transition_view}
use Rattle.pt_scopes.proofs.Pushed.{zip-more}
use Rattle.pt_charts.specs.declared.modal_texts.TransitionTrees.{TransitionTrees}
use Rattle.pt_inequalities.specs.Modals.{IsTransitionRead}
use Rattle.pt_charts.specs.Views.{scope_view, transition_trees}
use Rattle.pt_charts.proofs.modal_texts.read_transitions.Goals as goal

pub loop-transition-preserved : goal.loop-transition-preserved
loop-transition-preserved c =
    let i = c.loop-transition.transition-index in
    let more = zip-more (IsTransitionRead (scope_view c.args.scope.now)) transition_view transition_trees c.args.transitions.now i c.transition-item.result c.loop-transition-test.true c.transition-item.is c.loop-transition.trees.items c.in_ok-read_transition.field-0 c.loop-transition.invariant c.in_ok-read_transition.ensures in
    subst (λ (ts : List TransitionTrees). AllZip (IsTransitionRead (scope_view c.args.scope.now)) (map transition_view (take (i + 1) c.args.transitions.now)) (map transition_trees ts)) (sym c.in_ok-push.ensures.items) more
