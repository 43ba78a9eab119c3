use Rattle.std.proofs.Common.{◌≡◌, map, drop}
use Rattle.std.specs.List.{list_any}
use Rattle.pt_typing.specs.Least.{assignment}
use Rattle.pt_resolve.specs.ModalFaults.{set_fails}
use Rattle.pt_charts.specs.Views.{scope_view, action_view}
use Rattle.pt_resolve.proofs.modal_faults.has_failing_set.Given as goal

abbrev pub invariant-loop-action : goal.invariant-loop-action
invariant-loop-action l = list_any (set_fails (assignment l.typing) (scope_view l.scope)) (map action_view l.actions) ≡ list_any (set_fails (assignment l.typing) (scope_view l.scope)) (map action_view (drop l.action-index l.actions))
