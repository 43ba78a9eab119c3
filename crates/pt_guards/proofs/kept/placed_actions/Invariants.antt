use Rattle.std.proofs.Common.{take}
use Rattle.pt_guards.specs.Placed.{Each, SaysAction}
use Rattle.pt_chart.specs.Views.{action_view, names_view}
use Rattle.pt_guards.proofs.kept.placed_actions.Given as goal

abbrev pub invariant-loop-action : goal.invariant-loop-action
invariant-loop-action l = Each (λ p a. SaysAction (names_view l.names) p (action_view a)) l.made.items (take l.action-index l.actions)
