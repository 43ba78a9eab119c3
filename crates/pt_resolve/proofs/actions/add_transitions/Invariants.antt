use Rattle.std.proofs.Common.{◌≡◌, ◌++◌, map, drop}
use Rattle.pt_typing.specs.Views.{inequality_view}
use Rattle.pt_inequalities.specs.Modals.{of_transitions}
use Rattle.pt_charts.specs.Views.{scope_view, transition_trees}
use Rattle.pt_resolve.proofs.actions.add_transitions.Given as goal

abbrev pub invariant-loop-transition : goal.invariant-loop-transition
invariant-loop-transition l = map inequality_view l.inequalities.items ++ of_transitions (scope_view l.scope) (map transition_trees (drop l.transition-index l.transitions)) ≡ map inequality_view l.fn.inequalities.items ++ of_transitions (scope_view l.scope) (map transition_trees l.transitions)
