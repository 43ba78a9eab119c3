use Rattle.std.proofs.Common.{◌≡◌, take, map}
use Rattle.pt_chart.specs.Views.{action_view}
use Rattle.pt_chart.proofs.written.copied_actions.Given as goal

abbrev pub invariant-loop-action : goal.invariant-loop-action
invariant-loop-action l = map action_view l.copies.items ≡ map action_view (take l.action-index l.actions)
