use Rattle.std.proofs.Common.{map}
use Rattle.pt_chart.specs.Machine.{ModeTree}
use Rattle.pt_chart.specs.Views.{transition_view}
use Rattle.pt_machine_parts.proofs.modes.bare_mode.Goals as goal

pub returns : goal.returns
returns c = λ j. let m : ModeTree = record { refinement = c.args.refinement; preemptive = map transition_view (c.new-preemptive.ensures.items j); others = map transition_view (c.new-others.ensures.items j) } in m
