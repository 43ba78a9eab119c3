use Rattle.std.proofs.Common.{take}
use Rattle.pt_guards.specs.Placed.{Each, SaysTransition}
use Rattle.pt_chart.specs.Views.{transition_view, names_view}
use Rattle.pt_guards.proofs.kept.placed_transitions.Given as goal

abbrev pub invariant-loop-transition : goal.invariant-loop-transition
invariant-loop-transition l = Each (λ p t. SaysTransition (names_view l.names) p (transition_view t)) l.placed.items (take l.transition-index l.transitions)
