-- Firings of each class, worked by hand from its row, from its start on: one firing a tick.
use Rattle.std.specs.Prelude.{◌≡◌, ℕ, ◌+◌, List, [], ◌∷◌, map, true, false, Option, Some, None, option_map, codes, pos, negsuc}
use Rattle.pt_meaning.specs.Basics.{Tag, Streams}
use Rattle.pt_meaning.specs.Machine.{Partial, Unknown, Known}
use Rattle.pt_meaning.specs.Node.{Answer, Gives, Fails}
use Rattle.pt_value.specs.declared.token.Token.{Token}
use Rattle.pt_value.specs.declared.token.Token.TheVariants as token
use Rattle.pt_flow_base.specs.declared.params.Params.{Params}
use Rattle.pt_lib_time.specs.declared.time_actor.TimeActor.{TimeActor}
use Rattle.pt_lib_time.specs.TimeActor.{rows, start}

-- what an actor is started from: its class, its parameters, and how many channels come to each port
abbrev pub of_class : List ℕ → List (List ℕ × Token) → List (List ℕ × ℕ) → Params
of_class name values ports = record { class = name; values = values; ports = ports; types = []; tree = None }

-- what a firing comes to: its outputs, or the code at which it is stuck
pub data Told : Type 0 where
  Gave : Streams Token → Told
  StuckAt : ℕ → Told

abbrev pub tick : ℕ → Tag
tick n = record { time = n; step = 0 }

-- firings on these inputs from tick n on, up to one that is stuck
abbrev pub goes_on : (TimeActor → List Told) → Answer Token TimeActor → List Told
goes_on more (Gives after out) = Gave out ∷ more after
goes_on more (Fails code) = StuckAt code ∷ []

abbrev pub fired : List (Streams Token) → ℕ → TimeActor → List Told
fired [] n actor = []
fired (X ∷ Xs) n actor = goes_on (fired Xs (n + 1)) (rows.react (tick n) actor X)

abbrev pub run : Params → List (Streams Token) → Option (List Told)
run params Xs = option_map (fired Xs 0) (start params)

-- what is on the one output, firing by firing
abbrev pub gives : List (List Token) → Option (List Told)
gives outs = Some (map (λ tokens. Gave (tokens ∷ [])) outs)

-- the early answer after firings on these inputs
abbrev pub state_then : (TimeActor → Option TimeActor) → Answer Token TimeActor → Option TimeActor
state_then more (Gives after out) = more after
state_then more (Fails code) = None

abbrev pub state_after : List (Streams Token) → ℕ → TimeActor → Option TimeActor
state_after [] n actor = Some actor
state_after (X ∷ Xs) n actor = state_then (state_after Xs (n + 1)) (rows.react (tick n) actor X)

abbrev pub early_in : List (Partial Token) → Option TimeActor → Option (List (Partial Token))
early_in vs None = None
early_in vs (Some actor) = Some (rows.early (tick 0) actor vs)

abbrev pub early_at_start : Params → List (Partial Token) → Option (List (Partial Token))
early_at_start params vs = early_in vs (start params)

abbrev pub after_firings : List (Streams Token) → Option TimeActor → Option TimeActor
after_firings Xs None = None
after_firings Xs (Some actor) = state_after Xs 0 actor

abbrev pub early_after : Params → List (Streams Token) → List (Partial Token) → Option (List (Partial Token))
early_after params Xs vs = early_in vs (after_firings Xs (start params))

-- a signal: absent, a number, a truth value
abbrev pub absent : List Token
absent = []

abbrev pub int : ℕ → List Token
int n = token.Int (pos n) ∷ []

abbrev pub yes : List Token
yes = token.Bool true ∷ []

abbrev pub no : List Token
no = token.Bool false ∷ []

-- one channel to the port input
abbrev pub one_input : List (List ℕ × ℕ)
one_input = (codes "input", 1) ∷ []

-- nothing is known of the one output, or this is
abbrev pub unknown : Option (List (Partial Token))
unknown = Some (Unknown ∷ [])

abbrev pub known_as : List Token → Option (List (Partial Token))
known_as tokens = Some (Known tokens ∷ [])

-- Absent
abbrev pub absent_class : Params
absent_class = of_class (codes "Absent") [] []

pub record AbsentExamples : Type 0 where
  pub is_absent : run absent_class ([] ∷ [] ∷ [] ∷ []) ≡ gives (absent ∷ absent ∷ absent ∷ [])
  pub needs_nothing : early_at_start absent_class [] ≡ known_as absent

-- Current: the input is absent, then 4, then absent again
abbrev pub current : Params
current = of_class (codes "Current") [] one_input

pub record CurrentExamples : Type 0 where
  pub latest : run current ((absent ∷ []) ∷ (int 4 ∷ []) ∷ (absent ∷ []) ∷ (int 5 ∷ []) ∷ []) ≡ gives (absent ∷ int 4 ∷ int 4 ∷ int 5 ∷ [])
  pub waits : early_after current ((int 4 ∷ []) ∷ []) (Unknown ∷ []) ≡ unknown

-- Default: preferred and alternate
abbrev pub default : Params
default = of_class (codes "Default") [] ((codes "preferred", 1) ∷ (codes "alternate", 1) ∷ [])

pub record DefaultExamples : Type 0 where
  pub prefers : run default ((int 1 ∷ int 2 ∷ []) ∷ (absent ∷ int 2 ∷ []) ∷ (absent ∷ absent ∷ []) ∷ (int 1 ∷ absent ∷ []) ∷ []) ≡ gives (int 1 ∷ int 2 ∷ absent ∷ int 1 ∷ [])
  pub preferred_suffices : early_at_start default (Known (int 1) ∷ Unknown ∷ []) ≡ known_as (int 1)
  pub alternate_waits : early_at_start default (Unknown ∷ Known (int 2) ∷ []) ≡ unknown
  pub absent_waits : early_at_start default (Known absent ∷ Unknown ∷ []) ≡ unknown
  pub absent_then : early_at_start default (Known absent ∷ Known (int 2) ∷ []) ≡ known_as (int 2)

-- Merge: three channels, of which one has a token, or two have
abbrev pub merge : Params
merge = of_class (codes "Merge") [] ((codes "input", 3) ∷ [])

pub record MergeExamples : Type 0 where
  pub takes_any : run merge ((absent ∷ int 4 ∷ absent ∷ []) ∷ (int 5 ∷ absent ∷ absent ∷ []) ∷ (absent ∷ absent ∷ int 6 ∷ []) ∷ []) ≡ gives (int 4 ∷ int 5 ∷ int 6 ∷ [])
  pub first_of_two : run merge ((absent ∷ int 4 ∷ int 7 ∷ []) ∷ []) ≡ gives (int 4 ∷ [])
  pub waits : early_at_start merge (Known absent ∷ Known (int 2) ∷ Unknown ∷ []) ≡ unknown

-- NonStrictDelay: the input is 1, then absent, then 3
abbrev pub delay : Params
delay = of_class (codes "NonStrictDelay") ((codes "initialValue", token.Int (pos 7)) ∷ []) one_input

abbrev pub delay_from_absent : Params
delay_from_absent = of_class (codes "NonStrictDelay") [] one_input

pub record NonStrictDelayExamples : Type 0 where
  pub delays : run delay ((int 1 ∷ []) ∷ (absent ∷ []) ∷ (int 3 ∷ []) ∷ []) ≡ gives (int 7 ∷ int 1 ∷ absent ∷ [])
  pub from_absent : run delay_from_absent ((int 1 ∷ []) ∷ (absent ∷ []) ∷ (int 3 ∷ []) ∷ []) ≡ gives (absent ∷ int 1 ∷ absent ∷ [])
  pub at_once : early_at_start delay (Unknown ∷ []) ≡ known_as (int 7)
  pub absent_at_once : early_at_start delay_from_absent (Unknown ∷ []) ≡ known_as absent
  pub later_at_once : early_after delay ((int 1 ∷ []) ∷ []) (Unknown ∷ []) ≡ known_as (int 1)

-- NonStrictLogicGate: an and, which is meant where no function is given, and an or, of two inputs
abbrev pub two_inputs : List (List ℕ × ℕ)
two_inputs = (codes "input", 2) ∷ []

abbrev pub and_gate : Params
and_gate = of_class (codes "NonStrictLogicGate") [] two_inputs

abbrev pub or_gate : Params
or_gate = of_class (codes "NonStrictLogicGate") ((codes "function", token.Text (codes "or")) ∷ []) two_inputs

abbrev pub xor_gate : Params
xor_gate = of_class (codes "NonStrictLogicGate") ((codes "function", token.Text (codes "xor")) ∷ []) two_inputs

pub record NonStrictLogicGateExamples : Type 0 where
  pub both : run and_gate ((yes ∷ no ∷ []) ∷ (yes ∷ yes ∷ []) ∷ (yes ∷ absent ∷ []) ∷ (absent ∷ absent ∷ []) ∷ []) ≡ gives (no ∷ yes ∷ yes ∷ absent ∷ [])
  pub either : run or_gate ((yes ∷ no ∷ []) ∷ (no ∷ no ∷ []) ∷ (absent ∷ no ∷ []) ∷ (absent ∷ absent ∷ []) ∷ []) ≡ gives (yes ∷ no ∷ no ∷ absent ∷ [])
  pub false_decides : early_at_start and_gate (Unknown ∷ Known no ∷ []) ≡ known_as no
  pub true_waits : early_at_start and_gate (Known yes ∷ Unknown ∷ []) ≡ unknown
  pub true_decides : early_at_start or_gate (Known yes ∷ Unknown ∷ []) ≡ known_as yes
  pub false_waits : early_at_start or_gate (Unknown ∷ Known no ∷ []) ≡ unknown
  pub absent_waits : early_at_start and_gate (Known absent ∷ Unknown ∷ []) ≡ unknown
  pub no_other : run xor_gate [] ≡ None

-- NonStrictMux: two channels, 5 on the first and 6 on the second; the channels are counted from 0, so there is none of number 2, and none below 0
abbrev pub mux : Params
mux = of_class (codes "NonStrictMux") [] ((codes "select", 1) ∷ two_inputs)

pub record NonStrictMuxExamples : Type 0 where
  pub selects : run mux ((int 1 ∷ int 5 ∷ int 6 ∷ []) ∷ (absent ∷ int 5 ∷ int 6 ∷ []) ∷ (int 0 ∷ absent ∷ int 6 ∷ []) ∷ (int 0 ∷ int 5 ∷ absent ∷ []) ∷ []) ≡ gives (int 6 ∷ absent ∷ absent ∷ int 5 ∷ [])
  pub outside : run mux ((int 2 ∷ int 5 ∷ int 6 ∷ []) ∷ []) ≡ Some (StuckAt 32 ∷ [])
  pub below : run mux (((token.Int (negsuc 0) ∷ []) ∷ int 5 ∷ int 6 ∷ []) ∷ []) ≡ Some (StuckAt 32 ∷ [])
  pub channel_suffices : early_at_start mux (Known (int 1) ∷ Unknown ∷ Known (int 6) ∷ []) ≡ known_as (int 6)
  pub absent_channel_suffices : early_at_start mux (Known (int 0) ∷ Known absent ∷ Unknown ∷ []) ≡ known_as absent
  pub channel_waits : early_at_start mux (Known (int 0) ∷ Unknown ∷ Known (int 6) ∷ []) ≡ unknown
  pub select_waits : early_at_start mux (Unknown ∷ Known (int 5) ∷ Known (int 6) ∷ []) ≡ unknown
  pub absent_select_suffices : early_at_start mux (Known absent ∷ Unknown ∷ Unknown ∷ []) ≡ known_as absent
  pub outside_is_unknown : early_at_start mux (Known (int 2) ∷ Known (int 5) ∷ Known (int 6) ∷ []) ≡ unknown

-- Pre: the input is 1, then absent, then 3, then 4
abbrev pub pre : Params
pre = of_class (codes "Pre") ((codes "initialValue", token.Int (pos 7)) ∷ []) one_input

abbrev pub pre_from_nothing : Params
pre_from_nothing = of_class (codes "Pre") [] one_input

pub record PreExamples : Type 0 where
  pub before : run pre ((int 1 ∷ []) ∷ (absent ∷ []) ∷ (int 3 ∷ []) ∷ (int 4 ∷ []) ∷ []) ≡ gives (int 7 ∷ absent ∷ int 1 ∷ int 3 ∷ [])
  pub from_nothing : run pre_from_nothing ((int 1 ∷ []) ∷ (absent ∷ []) ∷ (int 3 ∷ []) ∷ []) ≡ gives (absent ∷ absent ∷ int 1 ∷ [])
  pub waits : early_at_start pre (Unknown ∷ []) ≡ unknown

-- When: input and control
abbrev pub when : Params
when = of_class (codes "When") [] ((codes "input", 1) ∷ (codes "control", 1) ∷ [])

pub record WhenExamples : Type 0 where
  pub passes : run when ((int 5 ∷ yes ∷ []) ∷ (int 5 ∷ no ∷ []) ∷ (int 5 ∷ absent ∷ []) ∷ (absent ∷ yes ∷ []) ∷ []) ≡ gives (int 5 ∷ absent ∷ absent ∷ absent ∷ [])
  pub waits : early_at_start when (Unknown ∷ Known no ∷ []) ≡ unknown

-- a class of another library, or none, isn't started
pub record OtherExamples : Type 0 where
  pub another : start (of_class (codes "Const") ((codes "value", token.Int (pos 1)) ∷ []) []) ≡ None

pub record TimeExamples : Type 0 where
  pub absent : AbsentExamples
  pub current : CurrentExamples
  pub default : DefaultExamples
  pub merge : MergeExamples
  pub non_strict_delay : NonStrictDelayExamples
  pub non_strict_logic_gate : NonStrictLogicGateExamples
  pub non_strict_mux : NonStrictMuxExamples
  pub pre : PreExamples
  pub when : WhenExamples
  pub other : OtherExamples
