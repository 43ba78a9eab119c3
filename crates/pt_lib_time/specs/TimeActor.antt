-- The library of time actors: each class by its own definition.
use Rattle.std.specs.Prelude.{ℕ, List, [], Bool, true, false, Option, Some, None, option_map, codes, bytes_eq, if◌then◌else◌}
use Rattle.pt_meaning.specs.Basics.{Tag, Streams}
use Rattle.pt_meaning.specs.Machine.{Need, Partial}
use Rattle.pt_meaning.specs.Node.{Answer, Gives, Fails, Rows, is_zero}
use Rattle.pt_value.specs.declared.token.Token.{Token}
use Rattle.pt_firing.specs.Strict.{strict}
use Rattle.pt_flow_base.specs.declared.params.Params.{Params}
use Rattle.pt_lib_time.specs.declared.time_actor.TimeActor.{TimeActor}
use Rattle.pt_lib_time.specs.declared.time_actor.TimeActor.TheVariants.{Absent, Current, Default, Merge, NonStrictDelay, NonStrictLogicGate, NonStrictMux, Pre, When}
use Rattle.pt_lib_time.specs.declared.time_actor.Class.{Class}
use Rattle.pt_lib_time.specs.declared.time_actor.Class.TheVariants as class
use Rattle.pt_lib_time.specs.Absent as absent
use Rattle.pt_lib_time.specs.Current as current
use Rattle.pt_lib_time.specs.Default as fallback
use Rattle.pt_lib_time.specs.Merge as merge
use Rattle.pt_lib_time.specs.NonStrictDelay as non_strict_delay
use Rattle.pt_lib_time.specs.NonStrictLogicGate as non_strict_logic_gate
use Rattle.pt_lib_time.specs.NonStrictMux as non_strict_mux
use Rattle.pt_lib_time.specs.Pre as pre
use Rattle.pt_lib_time.specs.When as when

-- the answer of an actor that is held as a variant
abbrev pub held_as : {S A : Type 0} → (S → A) → Answer Token S → Answer Token A
held_as held (Gives after out) = Gives (held after) out
held_as held (Fails code) = Fails code

-- the number of its input places
abbrev pub places : TimeActor → ℕ
places (Absent actor) = actor.places
places (Current actor) = actor.places
places (Default actor) = actor.places
places (Merge actor) = actor.places
places (NonStrictDelay actor) = actor.places
places (NonStrictLogicGate actor) = actor.places
places (NonStrictMux actor) = actor.places
places (Pre actor) = actor.places
places (When actor) = actor.places

-- each of them has one output
abbrev pub outputs : TimeActor → ℕ
outputs actor = 1

-- it needs the same at each of its places, at each firing: each but a Merge does, which takes a token from any
abbrev pub is_steady : TimeActor → Bool
is_steady (Absent actor) = true
is_steady (Current actor) = true
is_steady (Default actor) = true
is_steady (Merge actor) = false
is_steady (NonStrictDelay actor) = true
is_steady (NonStrictLogicGate actor) = true
is_steady (NonStrictMux actor) = true
is_steady (Pre actor) = true
is_steady (When actor) = true

-- it has no early answer before all its inputs are known
abbrev pub is_strict : TimeActor → Bool
is_strict (Absent actor) = true
is_strict (Current actor) = true
is_strict (Default actor) = false
is_strict (Merge actor) = true
is_strict (NonStrictDelay actor) = false
is_strict (NonStrictLogicGate actor) = false
is_strict (NonStrictMux actor) = false
is_strict (Pre actor) = true
is_strict (When actor) = true

abbrev pub need : TimeActor → Need
need (Absent actor) = absent.need actor
need (Current actor) = current.need actor
need (Default actor) = fallback.need actor
need (Merge actor) = merge.need actor
need (NonStrictDelay actor) = non_strict_delay.need actor
need (NonStrictLogicGate actor) = non_strict_logic_gate.need actor
need (NonStrictMux actor) = non_strict_mux.need actor
need (Pre actor) = pre.need actor
need (When actor) = when.need actor

abbrev pub step : Tag → TimeActor → Streams Token → Answer Token TimeActor
step tag (Absent actor) X = held_as Absent (absent.step tag actor X)
step tag (Current actor) X = held_as Current (current.step tag actor X)
step tag (Default actor) X = held_as Default (fallback.step tag actor X)
step tag (Merge actor) X = held_as Merge (merge.step tag actor X)
step tag (NonStrictDelay actor) X = held_as NonStrictDelay (non_strict_delay.step tag actor X)
step tag (NonStrictLogicGate actor) X = held_as NonStrictLogicGate (non_strict_logic_gate.step tag actor X)
step tag (NonStrictMux actor) X = held_as NonStrictMux (non_strict_mux.step tag actor X)
step tag (Pre actor) X = held_as Pre (pre.step tag actor X)
step tag (When actor) X = held_as When (when.step tag actor X)

-- its step takes no memory: it copies no token
abbrev pub IsSpare : TimeActor → Type 0
IsSpare (Absent actor) = Unit {0}
IsSpare (Current actor) = ⊥
IsSpare (Default actor) = ⊥
IsSpare (Merge actor) = ⊥
IsSpare (NonStrictDelay actor) = ⊥
IsSpare (NonStrictLogicGate actor) = Unit {0}
IsSpare (NonStrictMux actor) = ⊥
IsSpare (Pre actor) = ⊥
IsSpare (When actor) = ⊥

abbrev pub early : Tag → TimeActor → List (Partial Token) → List (Partial Token)
early tag (Absent actor) vs = strict 1 absent.step tag actor vs
early tag (Current actor) vs = strict 1 current.step tag actor vs
early tag (Default actor) vs = fallback.early tag actor vs
early tag (Merge actor) vs = strict 1 merge.step tag actor vs
early tag (NonStrictDelay actor) vs = non_strict_delay.early tag actor vs
early tag (NonStrictLogicGate actor) vs = non_strict_logic_gate.early tag actor vs
early tag (NonStrictMux actor) vs = non_strict_mux.early tag actor vs
early tag (Pre actor) vs = strict 1 pre.step tag actor vs
early tag (When actor) vs = strict 1 when.step tag actor vs

-- The rows of the library. None of these actors has first tokens or wakes, or takes its lists whole: so under DE, where only those that do have early answers, each of them is strict.
abbrev pub rows : Rows Token TimeActor
rows = record {
  first = λ actor. [];
  need = need;
  next = λ actor. None;
  react = step;
  early = early;
  whole = λ actor. false;
  begins = λ actor. is_zero (places actor);
}

-- the classes by name
abbrev pub class_of : List ℕ → Option Class
class_of name = if bytes_eq name (codes "Absent") then Some class.Absent else (if bytes_eq name (codes "Current") then Some class.Current else (if bytes_eq name (codes "Default") then Some class.Default else (if bytes_eq name (codes "Merge") then Some class.Merge else (if bytes_eq name (codes "NonStrictDelay") then Some class.NonStrictDelay else (if bytes_eq name (codes "NonStrictLogicGate") then Some class.NonStrictLogicGate else (if bytes_eq name (codes "NonStrictMux") then Some class.NonStrictMux else (if bytes_eq name (codes "Pre") then Some class.Pre else (if bytes_eq name (codes "When") then Some class.When else None))))))))

-- the actor of a class that the parameters start, if they are such as its row has them
abbrev pub start_as : Class → Params → Option TimeActor
start_as class.Absent params = option_map Absent (absent.start params)
start_as class.Current params = option_map Current (current.start params)
start_as class.Default params = option_map Default (fallback.start params)
start_as class.Merge params = option_map Merge (merge.start params)
start_as class.NonStrictDelay params = option_map NonStrictDelay (non_strict_delay.start params)
start_as class.NonStrictLogicGate params = option_map NonStrictLogicGate (non_strict_logic_gate.start params)
start_as class.NonStrictMux params = option_map NonStrictMux (non_strict_mux.start params)
start_as class.Pre params = option_map Pre (pre.start params)
start_as class.When params = option_map When (when.start params)

abbrev pub start_in : Option Class → Params → Option TimeActor
start_in None params = None
start_in (Some class) params = start_as class params

abbrev pub start : Params → Option TimeActor
start params = start_in (class_of params.class) params
