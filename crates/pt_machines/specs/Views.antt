-- What the program holds of a transition.
use Rattle.pt_chart.specs.Views.{transition_view}
use Rattle.pt_machine.specs.Machines.{Leaving}
use Rattle.pt_machines.specs.declared.transitions.Leaving.{Leaving as GivenLeaving}

abbrev pub leaving_view : GivenLeaving → Leaving
leaving_view x = record { from = x.from; early = x.is_preemptive; made = transition_view x.made }
