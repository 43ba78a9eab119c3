use Rattle.std.proofs.Common.{List, map, take}
use Rattle.pt_document.specs.View.{transition_view}
use Rattle.pt_chart.specs.Views.{mode_view}
use Rattle.pt_machine.specs.Machines.{Leaving}
use Rattle.pt_machines.specs.Charted.{AreAdded}
use Rattle.pt_machines.proofs.chart.add_transitions.Given as goal

abbrev pub invariant-loop-transition : goal.invariant-loop-transition
invariant-loop-transition l = (xs : List Leaving) × AreAdded l.site (map transition_view (take l.transition-index l.transitions)) xs (map mode_view l.modes.items) l.seen.items
