-- What the program holds of a Modal, as it is written.
use Rattle.std.specs.Prelude.{map}
use Rattle.pt_language.specs.Expr.{tree_of}
use Rattle.pt_chart.specs.declared.written.Action.{Action}
use Rattle.pt_chart.specs.declared.written.Transition.{Transition}
use Rattle.pt_chart.specs.declared.written.Mode.{Mode}
use Rattle.pt_chart.specs.declared.written.Ports.{Ports}
use Rattle.pt_chart.specs.declared.written.Names.{Names}
use Rattle.pt_chart.specs.declared.written.Written.{Written}
use Rattle.pt_chart.specs.Machine.{ActionTree, TransitionTree, ModeTree, PortMap, NameTable, Machine}

abbrev pub action_view : Action → ActionTree
action_view a = record { target = a.target; tree = tree_of a.value }

abbrev pub transition_view : Transition → TransitionTree
transition_view t = record { guard = tree_of t.guard; outputs = map action_view t.outputs.items; sets = map action_view t.sets.items; target = t.target; history = t.history }

abbrev pub mode_view : Mode → ModeTree
mode_view m = record { refinement = m.refinement; preemptive = map transition_view m.preemptive.items; others = map transition_view m.others.items }

abbrev pub ports_view : Ports → PortMap
ports_view p = record { inputs = p.inputs.items; outputs = p.outputs.items }

abbrev pub names_view : Names → NameTable
names_view n = record { inputs = n.inputs; outputs = n.outputs; variables = n.variables; parameters = n.parameters }

abbrev pub machine_of : Written → Machine
machine_of w = record { names = names_view w.names; values = w.values.items; initial = w.initial; modes = map mode_view w.modes.items; ports = map ports_view w.ports.items }
