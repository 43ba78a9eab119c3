-- Firings of each class, worked by hand from its row, from its start on, each at its tag.
use Rattle.std.specs.Prelude.{◌≡◌, ℕ, List, [], ◌∷◌, Option, Some, None, option_map, codes, pos}
use Rattle.pt_meaning.specs.Basics.{Tag, Streams}
use Rattle.pt_meaning.specs.Machine.{Partial, Unknown, Known}
use Rattle.pt_meaning.specs.Node.{Answer, Gives, Fails}
use Rattle.pt_value.specs.Value.{Int}
use Rattle.pt_value.specs.declared.token.Token.{Token}
use Rattle.pt_value.specs.declared.token.Token.TheVariants as token
use Rattle.pt_flow_base.specs.declared.params.Params.{Params}
use Rattle.pt_lib_timed.specs.declared.timed_actor.TimedActor.{TimedActor}
use Rattle.pt_lib_timed.specs.TimedActor.{rows, start}

-- what an actor is started from: its class and its parameters
abbrev pub of_class : List ℕ → List (List ℕ × Token) → Params
of_class name values = record { class = name; values = values; ports = []; types = []; tree = None }

-- what a firing comes to: the tokens on the one output, or the code at which it is stuck
pub data Told : Type 0 where
  Gave : Streams Token → Told
  StuckAt : ℕ → Told

abbrev pub tag : ℕ → ℕ → Tag
tag time step = record { time = time; step = step }

-- a firing at a tag on these inputs
abbrev pub Firing : Type 0
Firing = Tag × Streams Token

abbrev pub goes_on : (TimedActor → List Told) → Answer Token TimedActor → List Told
goes_on more (Gives after out) = Gave out ∷ more after
goes_on more (Fails code) = StuckAt code ∷ []

abbrev pub fired : List Firing → TimedActor → List Told
fired [] actor = []
fired (f ∷ fs) actor = goes_on (fired fs) (rows.react f.0 actor f.1)

-- firings in turn, up to one that is stuck
abbrev pub run : Params → List Firing → Option (List Told)
run params fs = option_map (fired fs) (start params)

abbrev pub state_then : (TimedActor → Option TimedActor) → Answer Token TimedActor → Option TimedActor
state_then more (Gives after out) = more after
state_then more (Fails code) = None

abbrev pub state_after : List Firing → TimedActor → Option TimedActor
state_after [] actor = Some actor
state_after (f ∷ fs) actor = state_then (state_after fs) (rows.react f.0 actor f.1)

abbrev pub after_all : List Firing → Option TimedActor → Option TimedActor
after_all fs None = None
after_all fs (Some actor) = state_after fs actor

-- the wake after some firings
abbrev pub wake_after : Params → List Firing → Option (Option Tag)
wake_after params fs = option_map rows.next (after_all fs (start params))

-- the early answer at a tag after some firings
abbrev pub early_after : Params → List Firing → Tag → List (Partial Token) → Option (List (Partial Token))
early_after params fs at vs = option_map (λ actor. rows.early at actor vs) (after_all fs (start params))

abbrev pub none : List Token
none = []

abbrev pub int : ℕ → Token
int n = token.Int (pos n)

abbrev pub one : ℕ → List Token
one n = int n ∷ []

abbrev pub gave : List Token → Told
gave tokens = Gave (tokens ∷ [])

-- SingleEvent of the value 7 at time 5: it is given once, at time 5 or later
abbrev pub event : Params
event = of_class (codes "SingleEvent") ((codes "time", int 5) ∷ (codes "value", int 7) ∷ [])

pub record SingleEventExamples : Type 0 where
  pub once : run event ((tag 3 0, []) ∷ (tag 5 0, []) ∷ (tag 6 0, []) ∷ []) ≡ Some (gave none ∷ gave (one 7) ∷ gave none ∷ [])
  pub late : run event ((tag 9 2, []) ∷ []) ≡ Some (gave (one 7) ∷ [])
  pub wakes : wake_after event [] ≡ Some (Some (tag 5 0))
  pub sleeps : wake_after event ((tag 5 0, []) ∷ []) ≡ Some None

-- CurrentTime: its trigger is present, then absent
abbrev pub current_time : Params
current_time = of_class (codes "CurrentTime") []

pub record CurrentTimeExamples : Type 0 where
  pub tells : run current_time ((tag 3 1, one 8 ∷ []) ∷ (tag 4 0, none ∷ []) ∷ []) ≡ Some (gave (one 3) ∷ gave none ∷ [])
  pub waits : early_after current_time [] (tag 3 0) (Unknown ∷ []) ≡ Some (Unknown ∷ [])

-- DiscreteClock, one of period 2, and one without a period, which isn't started
abbrev pub clock : Params
clock = of_class (codes "DiscreteClock") ((codes "period", int 2) ∷ [])

-- one with two events in each period of 10, and one without events
abbrev pub pair : ℕ → ℕ → Token
pair a b = token.Array (Int (pos a) ∷ Int (pos b) ∷ [])

abbrev pub two_events : Params
two_events = of_class (codes "DiscreteClock") ((codes "period", int 10) ∷ (codes "offsets", pair 1 4) ∷ (codes "values", pair 5 6) ∷ [])

abbrev pub no_events : Params
no_events = of_class (codes "DiscreteClock") ((codes "period", int 10) ∷ (codes "offsets", token.Array []) ∷ (codes "values", token.Array []) ∷ [])

-- one of which only the first two events are at a time
abbrev pub longest : Params
longest = of_class (codes "DiscreteClock") ((codes "period", int 4611686018427387904) ∷ [])

pub record DiscreteClockExamples : Type 0 where
  pub ticks : run clock ((tag 0 0, []) ∷ (tag 1 0, []) ∷ (tag 2 0, []) ∷ []) ≡ Some (gave (one 1) ∷ gave none ∷ gave (one 1) ∷ [])
  pub one_at_a_time : run clock ((tag 4 0, []) ∷ (tag 4 1, []) ∷ (tag 4 2, []) ∷ (tag 4 3, []) ∷ []) ≡ Some (gave (one 1) ∷ gave (one 1) ∷ gave (one 1) ∷ gave none ∷ [])
  pub wakes : wake_after clock [] ≡ Some (Some (tag 0 0))
  pub wakes_again : wake_after clock ((tag 0 0, []) ∷ (tag 2 0, []) ∷ []) ≡ Some (Some (tag 4 0))
  pub last : wake_after longest ((tag 0 0, []) ∷ []) ≡ Some (Some (tag 4611686018427387904 0))
  pub ends : wake_after longest ((tag 0 0, []) ∷ (tag 4611686018427387904 0, []) ∷ []) ≡ Some None
  pub offsets : run two_events ((tag 0 0, []) ∷ (tag 1 0, []) ∷ (tag 4 0, []) ∷ (tag 11 0, []) ∷ []) ≡ Some (gave none ∷ gave (one 5) ∷ gave (one 6) ∷ gave (one 5) ∷ [])
  pub next_offset : wake_after two_events ((tag 1 0, []) ∷ []) ≡ Some (Some (tag 4 0))
  pub next_round : wake_after two_events ((tag 1 0, []) ∷ (tag 4 0, []) ∷ []) ≡ Some (Some (tag 11 0))
  pub never : wake_after no_events [] ≡ Some None
  pub as_many_values : run (of_class (codes "DiscreteClock") ((codes "period", int 10) ∷ (codes "offsets", pair 1 4) ∷ [])) [] ≡ None
  pub no_period : run (of_class (codes "DiscreteClock") []) [] ≡ None

-- Sampler: input and trigger
abbrev pub sampler : Params
sampler = of_class (codes "Sampler") []

abbrev pub sampler_from : Params
sampler_from = of_class (codes "Sampler") ((codes "initialValue", int 9) ∷ [])

pub record SamplerExamples : Type 0 where
  pub samples : run sampler ((tag 1 0, one 4 ∷ none ∷ []) ∷ (tag 2 0, none ∷ one 0 ∷ []) ∷ (tag 3 0, one 5 ∷ one 0 ∷ []) ∷ []) ≡ Some (gave none ∷ gave (one 4) ∷ gave (one 5) ∷ [])
  pub nothing_yet : run sampler ((tag 1 0, none ∷ one 0 ∷ []) ∷ []) ≡ Some (gave none ∷ [])
  pub initial : run sampler_from ((tag 1 0, none ∷ one 0 ∷ []) ∷ []) ≡ Some (gave (one 9) ∷ [])
  pub waits : early_after sampler [] (tag 1 0) (Unknown ∷ Known (one 0) ∷ []) ≡ Some (Unknown ∷ [])

-- Register: what is kept at a tag isn't given there, nor in a second firing at that tag; and each token of the trigger gets one
abbrev pub register : Params
register = of_class (codes "Register") ((codes "initialValue", int 9) ∷ [])

pub record RegisterExamples : Type 0 where
  pub earlier : run register ((tag 1 0, one 4 ∷ one 0 ∷ []) ∷ (tag 2 0, none ∷ (int 0 ∷ int 0 ∷ []) ∷ []) ∷ []) ≡ Some (gave (one 9) ∷ gave (int 4 ∷ int 4 ∷ []) ∷ [])
  pub last_kept : run register ((tag 3 0, (int 5 ∷ int 6 ∷ []) ∷ one 0 ∷ []) ∷ (tag 3 0, none ∷ one 0 ∷ []) ∷ (tag 3 1, none ∷ one 0 ∷ []) ∷ []) ≡ Some (gave (one 9) ∷ gave (one 9) ∷ gave (one 6) ∷ [])
  pub nothing_yet : run (of_class (codes "Register") []) ((tag 1 0, one 4 ∷ one 0 ∷ []) ∷ []) ≡ Some (gave none ∷ [])
  pub trigger_suffices : early_after register [] (tag 1 0) (Unknown ∷ Known (one 0) ∷ []) ≡ Some (Known (one 9) ∷ [])
  pub trigger_waits : early_after register [] (tag 1 0) (Known (one 4) ∷ Unknown ∷ []) ≡ Some (Unknown ∷ [])

-- TimeDelay of 2 ticks, of none, and of so many that no later tag is within the limits
abbrev pub delay_of : ℕ → Params
delay_of ticks = of_class (codes "TimeDelay") ((codes "delay", int ticks) ∷ [])

pub record TimeDelayExamples : Type 0 where
  pub delays : run (delay_of 2) ((tag 0 0, one 1 ∷ []) ∷ (tag 1 0, one 2 ∷ []) ∷ (tag 2 0, none ∷ []) ∷ (tag 3 0, none ∷ []) ∷ []) ≡ Some (gave none ∷ gave none ∷ gave (one 1) ∷ gave (one 2) ∷ [])
  pub in_order : run (delay_of 2) ((tag 0 0, (int 1 ∷ int 2 ∷ []) ∷ []) ∷ (tag 2 0, none ∷ []) ∷ []) ≡ Some (gave none ∷ gave (int 1 ∷ int 2 ∷ []) ∷ [])
  pub next_microstep : run (delay_of 0) ((tag 0 0, one 1 ∷ []) ∷ (tag 0 0, none ∷ []) ∷ (tag 0 1, none ∷ []) ∷ []) ≡ Some (gave none ∷ gave none ∷ gave (one 1) ∷ [])
  pub wakes : wake_after (delay_of 2) ((tag 0 0, one 1 ∷ []) ∷ (tag 1 0, one 2 ∷ []) ∷ []) ≡ Some (Some (tag 2 0))
  pub sleeps : wake_after (delay_of 2) [] ≡ Some None
  -- after a return to an earlier microstep the wake is that of the second, and both are given in their order
  pub least_wakes : wake_after (delay_of 0) ((tag 5 3, one 1 ∷ []) ∷ (tag 5 0, one 2 ∷ []) ∷ []) ≡ Some (Some (tag 5 1))
  pub second_first : run (delay_of 0) ((tag 5 3, one 1 ∷ []) ∷ (tag 5 0, one 2 ∷ []) ∷ (tag 5 1, none ∷ []) ∷ (tag 5 4, none ∷ []) ∷ []) ≡ Some (gave none ∷ gave none ∷ gave (one 2) ∷ gave (one 1) ∷ [])
  pub as_listed : run (delay_of 0) ((tag 5 3, one 1 ∷ []) ∷ (tag 5 0, one 2 ∷ []) ∷ (tag 5 4, none ∷ []) ∷ []) ≡ Some (gave none ∷ gave none ∷ gave (int 1 ∷ int 2 ∷ []) ∷ [])
  pub too_late : run (delay_of 4611686018427387904) ((tag 1 0, one 1 ∷ []) ∷ []) ≡ Some (StuckAt 38 ∷ [])
  pub nothing_arrives : run (delay_of 4611686018427387904) ((tag 1 0, none ∷ []) ∷ []) ≡ Some (gave none ∷ [])
  pub at_once : early_after (delay_of 2) ((tag 0 0, one 1 ∷ []) ∷ []) (tag 2 0) (Unknown ∷ []) ≡ Some (Known (one 1) ∷ [])

-- Server: tokens at 0, 2 and 4, which take 3 ticks each; and two that come at once
abbrev pub server_of : ℕ → Params
server_of ticks = of_class (codes "Server") ((codes "serviceTime", int ticks) ∷ [])

pub record ServerExamples : Type 0 where
  pub serves : run (server_of 3) ((tag 0 0, one 1 ∷ []) ∷ (tag 2 0, one 2 ∷ []) ∷ (tag 3 0, none ∷ []) ∷ (tag 4 0, one 3 ∷ []) ∷ (tag 6 0, none ∷ []) ∷ (tag 9 0, none ∷ []) ∷ []) ≡ Some (gave none ∷ gave none ∷ gave (one 1) ∷ gave none ∷ gave (one 2) ∷ gave (one 3) ∷ [])
  pub in_turn : run (server_of 3) ((tag 0 0, (int 1 ∷ int 2 ∷ []) ∷ []) ∷ (tag 3 0, none ∷ []) ∷ (tag 6 0, none ∷ []) ∷ []) ≡ Some (gave none ∷ gave (one 1) ∷ gave (one 2) ∷ [])
  pub at_no_time : run (server_of 0) ((tag 0 0, (int 1 ∷ int 2 ∷ []) ∷ []) ∷ (tag 0 1, none ∷ []) ∷ (tag 0 2, none ∷ []) ∷ []) ≡ Some (gave none ∷ gave (one 1) ∷ gave (one 2) ∷ [])
  pub idle_again : run (server_of 3) ((tag 0 0, one 1 ∷ []) ∷ (tag 3 0, one 2 ∷ []) ∷ (tag 6 0, none ∷ []) ∷ []) ≡ Some (gave none ∷ gave (one 1) ∷ gave (one 2) ∷ [])
  pub wakes : wake_after (server_of 3) ((tag 0 0, one 1 ∷ []) ∷ (tag 2 0, one 2 ∷ []) ∷ (tag 3 0, none ∷ []) ∷ []) ≡ Some (Some (tag 6 0))
  pub too_late : run (server_of 4611686018427387904) ((tag 0 0, (int 1 ∷ int 2 ∷ []) ∷ []) ∷ []) ≡ Some (StuckAt 38 ∷ [])
  pub at_once : early_after (server_of 3) [] (tag 2 0) (Unknown ∷ []) ≡ Some (Known none ∷ [])

-- a class of another library, or none, isn't started
pub record OtherExamples : Type 0 where
  pub another : start (of_class (codes "Const") ((codes "value", int 1) ∷ [])) ≡ None

pub record TimedExamples : Type 0 where
  pub single_event : SingleEventExamples
  pub current_time : CurrentTimeExamples
  pub discrete_clock : DiscreteClockExamples
  pub sampler : SamplerExamples
  pub register : RegisterExamples
  pub time_delay : TimeDelayExamples
  pub server : ServerExamples
  pub other : OtherExamples
