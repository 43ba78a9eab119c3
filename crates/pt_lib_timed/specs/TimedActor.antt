-- The library of timed actors: each class by its own definition.
use Rattle.std.specs.Prelude.{ℕ, List, [], Bool, true, false, not, nat_eq, Option, Some, None, option_map, codes, bytes_eq, if◌then◌else◌}
use Rattle.pt_meaning.specs.Basics.{Tag, Streams}
use Rattle.pt_meaning.specs.Machine.{Need, Partial}
use Rattle.pt_meaning.specs.Node.{Answer, Gives, Fails, Rows}
use Rattle.pt_value.specs.declared.token.Token.{Token}
use Rattle.pt_firing.specs.Strict.{strict}
use Rattle.pt_flow_base.specs.declared.params.Params.{Params}
use Rattle.pt_lib_timed.specs.declared.timed_actor.TimedActor.{TimedActor}
use Rattle.pt_lib_timed.specs.declared.timed_actor.TimedActor.TheVariants.{CurrentTime, DiscreteClock, Register, Sampler, Server, SingleEvent, TimeDelay}
use Rattle.pt_lib_timed.specs.declared.timed_actor.Class.{Class}
use Rattle.pt_lib_timed.specs.declared.timed_actor.Class.TheVariants as class
use Rattle.pt_lib_timed.specs.CurrentTime as current_time
use Rattle.pt_lib_timed.specs.DiscreteClock as discrete_clock
use Rattle.pt_lib_timed.specs.Register as register
use Rattle.pt_lib_timed.specs.Sampler as sampler
use Rattle.pt_lib_timed.specs.Server as server
use Rattle.pt_lib_timed.specs.SingleEvent as single_event
use Rattle.pt_lib_timed.specs.TimeDelay as time_delay

-- the answer of an actor that is held as a variant
abbrev pub held_as : {S A : Type 0} → (S → A) → Answer Token S → Answer Token A
held_as held (Gives after out) = Gives (held after) out
held_as held (Fails code) = Fails code

-- the number of its input places
abbrev pub places : TimedActor → ℕ
places (CurrentTime actor) = actor.places
places (DiscreteClock actor) = actor.places
places (Register actor) = actor.places
places (Sampler actor) = actor.places
places (Server actor) = actor.places
places (SingleEvent actor) = actor.places
places (TimeDelay actor) = actor.places

-- each of them has one output
abbrev pub outputs : TimedActor → ℕ
outputs actor = 1

-- it needs the same at each firing
abbrev pub is_steady : TimedActor → Bool
is_steady actor = true

-- It takes its lists whole: several tokens of one tag in one firing. Of these classes they are those that have an early answer.
abbrev pub whole : TimedActor → Bool
whole (CurrentTime actor) = false
whole (DiscreteClock actor) = false
whole (Register actor) = true
whole (Sampler actor) = false
whole (Server actor) = true
whole (SingleEvent actor) = false
whole (TimeDelay actor) = true

-- it has no early answer before all its inputs are known
abbrev pub is_strict : TimedActor → Bool
is_strict actor = not (whole actor)

-- A place is a delay where what comes there has no part in what is given at its tag: every one of a TimeDelay and of a Server, and of a Register every one but that of its trigger.
abbrev pub is_delay : TimedActor → ℕ → Bool
is_delay (CurrentTime actor) place = false
is_delay (DiscreteClock actor) place = false
is_delay (Register actor) place = not (nat_eq place 1)
is_delay (Sampler actor) place = false
is_delay (Server actor) place = true
is_delay (SingleEvent actor) place = false
is_delay (TimeDelay actor) place = true

abbrev pub need : TimedActor → Need
need (CurrentTime actor) = current_time.need actor
need (DiscreteClock actor) = discrete_clock.need actor
need (Register actor) = register.need actor
need (Sampler actor) = sampler.need actor
need (Server actor) = server.need actor
need (SingleEvent actor) = single_event.need actor
need (TimeDelay actor) = time_delay.need actor

-- its wake
abbrev pub next : TimedActor → Option Tag
next (CurrentTime actor) = None
next (DiscreteClock actor) = discrete_clock.next actor
next (Register actor) = None
next (Sampler actor) = None
next (Server actor) = server.next actor
next (SingleEvent actor) = single_event.next actor
next (TimeDelay actor) = time_delay.next actor

abbrev pub step : Tag → TimedActor → Streams Token → Answer Token TimedActor
step tag (CurrentTime actor) X = held_as CurrentTime (current_time.step tag actor X)
step tag (DiscreteClock actor) X = held_as DiscreteClock (discrete_clock.step tag actor X)
step tag (Register actor) X = held_as Register (register.step tag actor X)
step tag (Sampler actor) X = held_as Sampler (sampler.step tag actor X)
step tag (Server actor) X = held_as Server (server.step tag actor X)
step tag (SingleEvent actor) X = held_as SingleEvent (single_event.step tag actor X)
step tag (TimeDelay actor) X = held_as TimeDelay (time_delay.step tag actor X)

-- its step takes no memory: it copies no token
abbrev pub IsSpare : TimedActor → Type 0
IsSpare (CurrentTime actor) = Unit {0}
IsSpare (DiscreteClock actor) = ⊥
IsSpare (Register actor) = ⊥
IsSpare (Sampler actor) = ⊥
IsSpare (Server actor) = ⊥
IsSpare (SingleEvent actor) = Unit {0}
IsSpare (TimeDelay actor) = ⊥

abbrev pub early : Tag → TimedActor → List (Partial Token) → List (Partial Token)
early tag (CurrentTime actor) vs = strict 1 current_time.step tag actor vs
early tag (DiscreteClock actor) vs = strict 1 discrete_clock.step tag actor vs
early tag (Register actor) vs = register.early tag actor vs
early tag (Sampler actor) vs = strict 1 sampler.step tag actor vs
early tag (Server actor) vs = server.early tag actor vs
early tag (SingleEvent actor) vs = strict 1 single_event.step tag actor vs
early tag (TimeDelay actor) vs = time_delay.early tag actor vs

-- The rows of the library. None of these actors has first tokens, and each has input places or wakes of its own, so none begins by itself.
abbrev pub rows : Rows Token TimedActor
rows = record {
  first = λ actor. [];
  need = need;
  next = next;
  react = step;
  early = early;
  whole = whole;
  begins = λ actor. false;
}

-- the classes by name
abbrev pub class_of : List ℕ → Option Class
class_of name = if bytes_eq name (codes "CurrentTime") then Some class.CurrentTime else (if bytes_eq name (codes "DiscreteClock") then Some class.DiscreteClock else (if bytes_eq name (codes "Register") then Some class.Register else (if bytes_eq name (codes "Sampler") then Some class.Sampler else (if bytes_eq name (codes "Server") then Some class.Server else (if bytes_eq name (codes "SingleEvent") then Some class.SingleEvent else (if bytes_eq name (codes "TimeDelay") then Some class.TimeDelay else None))))))

-- the actor of a class that the parameters start, if they are such as its row has them
abbrev pub start_as : Class → Params → Option TimedActor
start_as class.CurrentTime params = option_map CurrentTime (current_time.start params)
start_as class.DiscreteClock params = option_map DiscreteClock (discrete_clock.start params)
start_as class.Register params = option_map Register (register.start params)
start_as class.Sampler params = option_map Sampler (sampler.start params)
start_as class.Server params = option_map Server (server.start params)
start_as class.SingleEvent params = option_map SingleEvent (single_event.start params)
start_as class.TimeDelay params = option_map TimeDelay (time_delay.start params)

abbrev pub start_in : Option Class → Params → Option TimedActor
start_in None params = None
start_in (Some class) params = start_as class params

abbrev pub start : Params → Option TimedActor
start params = start_in (class_of params.class) params
