use Rattle.std.proofs.Common.{◌≡◌, take, map}
use Rattle.pt_chart.specs.Views.{transition_view}
use Rattle.pt_chart.proofs.written.copied_transitions.Given as goal

abbrev pub invariant-loop-transition : goal.invariant-loop-transition
invariant-loop-transition l = map transition_view l.copies.items ≡ map transition_view (take l.transition-index l.transitions)
