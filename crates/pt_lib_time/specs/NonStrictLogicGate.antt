-- NonStrictLogicGate: the conjunction or disjunction of its present inputs.
use Rattle.std.specs.Prelude.{ℕ, List, [], ◌∷◌, Bool, true, false, ◌&&◌, ◌||◌, not, Option, Some, None, codes, bytes_eq, if◌then◌else◌}
use Rattle.pt_meaning.specs.Basics.{Tag, Streams}
use Rattle.pt_meaning.specs.Machine.{Need, Partial, Unknown, Known}
use Rattle.pt_meaning.specs.Node.{Answer}
use Rattle.pt_value.specs.declared.token.Token.{Token}
use Rattle.pt_value.specs.declared.token.Token.TheVariants as token
use Rattle.pt_firing.specs.Params.{value_under, channels_to}
use Rattle.pt_firing.specs.Row.{one_each, truth_in}
use Rattle.pt_firing.specs.Strict.{strict}
use Rattle.pt_firing.specs.TriState.{tokens_known}
use Rattle.pt_flow_base.specs.declared.params.Params.{Params}
use Rattle.pt_lib_time.specs.declared.non_strict_logic_gate.Gate.{Gate}
use Rattle.pt_lib_time.specs.declared.non_strict_logic_gate.Gate.TheVariants.{And, Or}
use Rattle.pt_lib_time.specs.declared.non_strict_logic_gate.NonStrictLogicGate.{NonStrictLogicGate}
use Rattle.pt_lib_time.specs.Signal.{shows, decided_or}

abbrev pub need : NonStrictLogicGate → Need
need actor = one_each actor.places

-- the gate on two truth values
abbrev pub joined : Gate → Bool → Bool → Bool
joined And a b = a && b
joined Or a b = a || b

-- one signal more
abbrev pub with_signal : Gate → Option Bool → Option Bool → Option Bool
with_signal gate None later = later
with_signal gate (Some a) None = Some a
with_signal gate (Some a) (Some b) = Some (joined gate a b)

-- the gate on those that are present, if any is
unfoldable pub result : Gate → Streams Token → Option Bool
result gate [] = None
result gate (tokens ∷ X) = with_signal gate (truth_in tokens) (result gate X)

abbrev pub as_token : Option Bool → Option Token
as_token None = None
as_token (Some b) = Some (token.Bool b)

abbrev pub step : Tag → NonStrictLogicGate → Streams Token → Answer Token NonStrictLogicGate
step tag actor X = shows actor (as_token (result actor.gate X))

-- the truth value that decides the gate, whatever the others are
abbrev pub decider : Gate → Bool
decider And = false
decider Or = true

-- a signal is present and decides the gate
abbrev pub decides : Gate → Option Bool → Bool
decides And (Some b) = not b
decides Or (Some b) = b
decides gate None = false

-- a place is known to have such a signal
unfoldable pub is_decided : Gate → List (Partial Token) → Bool
is_decided gate [] = false
is_decided gate (v ∷ vs) = decides gate (truth_in (tokens_known v)) || is_decided gate vs

abbrev pub decided : Gate → List (Partial Token) → Partial Token
decided gate vs = if is_decided gate vs then Known (token.Bool (decider gate) ∷ []) else Unknown

-- else all have to be known
abbrev pub early : Tag → NonStrictLogicGate → List (Partial Token) → List (Partial Token)
early tag actor vs = decided_or (decided actor.gate vs) (strict 1 step tag actor vs)

abbrev pub gate_of : List ℕ → Option Gate
gate_of text = if bytes_eq text (codes "and") then Some And else (if bytes_eq text (codes "or") then Some Or else None)

-- a text names it, and and is meant where there is none
abbrev pub gate_by : Option Token → Option Gate
gate_by None = Some And
gate_by (Some (token.Text text)) = gate_of text
gate_by (Some token) = None

abbrev pub start_by : Option Gate → ℕ → Option NonStrictLogicGate
start_by None channels = None
start_by (Some gate) channels = Some (record { gate = gate; places = channels })

abbrev pub start : Params → Option NonStrictLogicGate
start params = start_by (gate_by (value_under (codes "function") params.values)) (channels_to (codes "input") params.ports)
