use Rattle.std.proofs.Common.{take, map}
use Rattle.std.specs.List.{AllZip}
use Rattle.pt_document.specs.View.{transition_view}
use Rattle.pt_inequalities.specs.Modals.{IsTransitionRead}
use Rattle.pt_charts.specs.Views.{scope_view, transition_trees}
use Rattle.pt_charts.proofs.modal_texts.read_transitions.Given as goal

abbrev pub invariant-loop-transition : goal.invariant-loop-transition
invariant-loop-transition l = AllZip (IsTransitionRead (scope_view l.scope)) (map transition_view (take l.transition-index l.transitions)) (map transition_trees l.trees.items)
