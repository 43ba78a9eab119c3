use Rattle.std.proofs.Common.{◌≡◌, ◌++◌, map, drop}
use Rattle.pt_typing.specs.Views.{inequality_view}
use Rattle.pt_inequalities.specs.Modals.{of_actions}
use Rattle.pt_charts.specs.Views.{scope_view, action_view}
use Rattle.pt_resolve.proofs.actions.add_actions.Given as goal

abbrev pub invariant-loop-action : goal.invariant-loop-action
invariant-loop-action l = map inequality_view l.inequalities.items ++ of_actions (scope_view l.scope) (map action_view (drop l.action-index l.actions)) ≡ map inequality_view l.fn.inequalities.items ++ of_actions (scope_view l.scope) (map action_view l.actions)
