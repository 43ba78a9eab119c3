-- The chart of a Modal as it is written: its guards and actions are what their expressions come to.
use Rattle.std.specs.Prelude.{ℕ, [], length, map, get_or, true}
use Rattle.pt_meaning.specs.Modal.{Test, Off, On, Bad, Chart}
use Rattle.pt_meaning.specs.Transitions.{Reading, Reads, Absent, Faulty, Action, Transition, Mode}
use Rattle.pt_meaning.specs.Transitions as transitions
use Rattle.pt_value.specs.Value.{Value, Bool}
use Rattle.pt_value.specs.Token.{token_of}
use Rattle.pt_value.specs.declared.token.Token.{Token}
use Rattle.pt_language.specs.declared.eval_fault.EvalFault.TheVariants as fault
use Rattle.pt_language.specs.Outcome.{Outcome, Gives, Stops, Wrong}
use Rattle.pt_language.specs.Meaning.{value}
use Rattle.pt_firing.specs.RunFault.{code_of}
use Rattle.pt_firing.specs.declared.fault.RunFault.TheVariants as run
use Rattle.pt_chart.specs.Machine.{ActionTree, TransitionTree, ModeTree, PortMap, NameTable, Machine}
use Rattle.pt_chart.specs.Names.{names_in}

-- a guard by what its expression comes to: one that reads an absent port isn't enabled
abbrev pub test_of : Outcome Value → Test
test_of (Gives (Bool true)) = On
test_of (Gives _) = Off
test_of (Stops fault.DivideByZero) = Bad (code_of run.DivideByZero)
test_of (Stops fault.Overflow) = Bad (code_of run.Overflow)
test_of (Stops fault.Index) = Bad (code_of run.Index)
test_of (Stops fault.Size) = Bad (code_of run.Size)
test_of (Stops fault.Absent) = Off
test_of (Stops fault.Memory) = Off
test_of Wrong = Off

-- an action by what its expression comes to: one that reads an absent port does nothing
abbrev pub reading_of : Outcome Value → Reading Token
reading_of (Gives v) = Reads (token_of v)
reading_of (Stops fault.DivideByZero) = Faulty (code_of run.DivideByZero)
reading_of (Stops fault.Overflow) = Faulty (code_of run.Overflow)
reading_of (Stops fault.Index) = Faulty (code_of run.Index)
reading_of (Stops fault.Size) = Faulty (code_of run.Size)
reading_of (Stops fault.Absent) = Absent
reading_of (Stops fault.Memory) = Absent
reading_of Wrong = Absent

abbrev pub action_of : NameTable → ActionTree → Action Token
action_of names a = record { target = a.target; value = λ scope. reading_of (value (names_in names scope) a.tree) }

abbrev pub transition_of : NameTable → TransitionTree → Transition Token
transition_of names t = record {
  guard = λ scope. test_of (value (names_in names scope) t.guard);
  outputs = map (action_of names) t.outputs;
  sets = map (action_of names) t.sets;
  target = t.target;
  history = t.history;
}

abbrev pub mode_of : NameTable → ModeTree → Mode Token
mode_of names m = record { refinement = m.refinement; preemptive = map (transition_of names) m.preemptive; others = map (transition_of names) m.others }

-- a refinement without ports
abbrev no_ports : PortMap
no_ports = record { inputs = []; outputs = [] }

abbrev pub ports_at : Machine → ℕ → PortMap
ports_at m i = get_or m.ports i no_ports

-- the chart of a Modal
abbrev pub chart_of : Machine → Chart Token
chart_of m = transitions.chart_of (length m.names.inputs) (length m.names.outputs) m.initial m.values (map (mode_of m.names) m.modes) (λ i. (ports_at m i).inputs) (λ i. (ports_at m i).outputs)
