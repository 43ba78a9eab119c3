-- The actors of all libraries: each library by its own rows.
use Rattle.std.specs.Prelude.{ℕ, List, Bool, true, false, Option, Some, None, option_map}
use Rattle.std.specs.Option.{option_or}
use Rattle.pt_meaning.specs.Basics.{Tag, Streams}
use Rattle.pt_meaning.specs.Machine.{Need, Partial}
use Rattle.pt_meaning.specs.Node.{Answer, Gives, Fails, Rows}
use Rattle.pt_value.specs.declared.token.Token.{Token}
use Rattle.pt_lib_data.specs.DataActor as data_actor
use Rattle.pt_flow_base.specs.declared.params.Params.{Params}
use Rattle.pt_lib_flow.specs.FlowActor as flow_actor
use Rattle.pt_lib_time.specs.TimeActor as time_actor
use Rattle.pt_lib_timed.specs.TimedActor as timed_actor
pub use Rattle.pt_flow_base.specs.Number.{GivesNumber, GivesNumbers, numbers_of, MakesInTurn, GivesStretch}
pub use Rattle.pt_lib_timed.specs.Signal.{signal_of, GivesSignal, TellsSignal}
use Rattle.pt_library.specs.declared.library_actor.LibraryActor.{LibraryActor}
use Rattle.pt_library.specs.declared.library_actor.LibraryActor.TheVariants.{Flow, Data, Time, Timed}

abbrev pub first : LibraryActor → List Token
first (Flow actor) = flow_actor.rows.first actor
first (Data actor) = data_actor.rows.first actor
first (Time actor) = time_actor.rows.first actor
first (Timed actor) = timed_actor.rows.first actor

abbrev pub need : LibraryActor → Need
need (Flow actor) = flow_actor.need actor
need (Data actor) = data_actor.need actor
need (Time actor) = time_actor.need actor
need (Timed actor) = timed_actor.need actor

abbrev pub next : LibraryActor → Option Tag
next (Flow actor) = flow_actor.rows.next actor
next (Data actor) = data_actor.rows.next actor
next (Time actor) = time_actor.rows.next actor
next (Timed actor) = timed_actor.rows.next actor

-- the inputs that the step takes
abbrev pub Takes : Tag → LibraryActor → Streams Token → Type 0
Takes tag (Flow actor) X = Unit {0}
Takes tag (Data actor) X = Unit {0}
Takes tag (Time actor) X = Unit {0}
Takes tag (Timed actor) X = Unit {0}

-- the number of its outputs
abbrev pub outputs : LibraryActor → ℕ
outputs (Flow actor) = flow_actor.outputs actor
outputs (Data actor) = data_actor.outputs actor
outputs (Time actor) = time_actor.outputs actor
outputs (Timed actor) = timed_actor.outputs actor

-- it needs the same at each firing
abbrev pub is_steady : LibraryActor → Bool
is_steady (Flow actor) = flow_actor.is_steady actor
is_steady (Data actor) = data_actor.is_steady actor
is_steady (Time actor) = time_actor.is_steady actor
is_steady (Timed actor) = timed_actor.is_steady actor

-- it has no early answer before all its inputs are known
abbrev pub is_strict : LibraryActor → Bool
is_strict (Flow actor) = true
is_strict (Data actor) = true
is_strict (Time actor) = time_actor.is_strict actor
is_strict (Timed actor) = timed_actor.is_strict actor

-- it takes a token of each channel in one meeting, under Rendezvous
abbrev pub is_barrier : LibraryActor → Bool
is_barrier (Flow actor) = false
is_barrier (Data actor) = data_actor.is_barrier actor
is_barrier (Time actor) = false
is_barrier (Timed actor) = false

-- How many tokens a firing gives on each output, where each input has the tokens that it needs, of the types of its row. There are none where the numbers vary, and none of an actor that gives signals: a signal may be absent.
abbrev pub rates : LibraryActor → Option (List ℕ)
rates (Flow actor) = flow_actor.rates actor
rates (Data actor) = Some (data_actor.rates actor)
rates (Time actor) = None
rates (Timed actor) = None

-- the step takes no memory
abbrev pub IsSpare : LibraryActor → Type 0
IsSpare (Flow actor) = flow_actor.IsSpare actor
IsSpare (Data actor) = ⊥
IsSpare (Time actor) = time_actor.IsSpare actor
IsSpare (Timed actor) = timed_actor.IsSpare actor

-- the answer of an actor of one library
abbrev pub held_as : {S : Type 0} → (S → LibraryActor) → Answer Token S → Answer Token LibraryActor
held_as held (Gives after out) = Gives (held after) out
held_as held (Fails code) = Fails code

abbrev pub step : Tag → LibraryActor → Streams Token → Answer Token LibraryActor
step tag (Flow actor) X = held_as Flow (flow_actor.step tag actor X)
step tag (Data actor) X = held_as Data (data_actor.step tag actor X)
step tag (Time actor) X = held_as Time (time_actor.step tag actor X)
step tag (Timed actor) X = held_as Timed (timed_actor.step tag actor X)

abbrev pub early : Tag → LibraryActor → List (Partial Token) → List (Partial Token)
early tag (Flow actor) vs = flow_actor.early tag actor vs
early tag (Data actor) vs = data_actor.early tag actor vs
early tag (Time actor) vs = time_actor.early tag actor vs
early tag (Timed actor) vs = timed_actor.early tag actor vs

abbrev pub whole : LibraryActor → Bool
whole (Flow actor) = flow_actor.rows.whole actor
whole (Data actor) = data_actor.rows.whole actor
whole (Time actor) = time_actor.rows.whole actor
whole (Timed actor) = timed_actor.rows.whole actor

-- a place is a delay where what comes there has no part in what is given at its tag: only timed actors have such places
abbrev pub is_delay : LibraryActor → ℕ → Bool
is_delay (Flow actor) place = false
is_delay (Data actor) place = false
is_delay (Time actor) place = false
is_delay (Timed actor) place = timed_actor.is_delay actor place

abbrev pub begins : LibraryActor → Bool
begins (Flow actor) = flow_actor.rows.begins actor
begins (Data actor) = data_actor.rows.begins actor
begins (Time actor) = time_actor.rows.begins actor
begins (Timed actor) = timed_actor.rows.begins actor

-- the rows of all libraries, as the meaning of a model takes them
abbrev pub rows : Rows Token LibraryActor
rows = record { first = first; need = need; next = next; react = step; early = early; whole = whole; begins = begins }

-- the actor that the parameters start: that of the first library that has a start of them, and each class is of one library alone
abbrev pub start : Params → Option LibraryActor
start params = option_or (option_map Flow (flow_actor.start params)) (option_or (option_map Data (data_actor.start params.class params.values params.ports)) (option_or (option_map Time (time_actor.start params)) (option_map Timed (timed_actor.start params))))
