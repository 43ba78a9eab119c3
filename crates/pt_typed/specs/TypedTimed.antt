-- What the row of each actor of timed models asks of the types of its places and of its output, and of the tokens that it holds.
use Rattle.std.specs.Prelude.{List, IfSome}
use Rattle.std.specs.List.{AllByRecursion}
use Rattle.pt_meaning.specs.Streams.{get}
use Rattle.pt_datatypes.specs.Datatype.{Datatype, Int}
use Rattle.pt_datatypes.specs.Order.{IsBelow}
use Rattle.pt_lib_timed.specs.Pending.{Event}
use Rattle.pt_lib_timed.specs.declared.timed_actor.TimedActor.{TimedActor}
use Rattle.pt_lib_timed.specs.declared.timed_actor.TimedActor.TheVariants.{CurrentTime, DiscreteClock, Register, Sampler, Server, SingleEvent, TimeDelay}
use Rattle.pt_typed.specs.TokenTypes.{IsTokenOf, IsUnder, ToFirst}
use Rattle.pt_typed.specs.TypedFlow.{IsValueOf}

-- a token that is held back with its tag is of a type
abbrev pub IsEventOf : Datatype → Event → Type 0
IsEventOf u event = IsTokenOf u event.1

-- class by class: of a trigger only whether it is there matters, so any token may come there
abbrev pub IsTypedTimed : (places outputs : List Datatype) → TimedActor → Type 0
IsTypedTimed places outputs (CurrentTime actor) = ToFirst (λ u. IsBelow Int u) outputs
IsTypedTimed places outputs (DiscreteClock actor) = ToFirst (λ u. AllByRecursion (IsValueOf u) actor.values) outputs
IsTypedTimed places outputs (Register actor) = ToFirst (λ u. IsUnder (get places 0) u × IfSome actor.before (IsTokenOf u) × IfSome actor.latest (IsEventOf u)) outputs
IsTypedTimed places outputs (Sampler actor) = ToFirst (λ u. IsUnder (get places 0) u × IfSome actor.kept (IsTokenOf u)) outputs
IsTypedTimed places outputs (Server actor) = ToFirst (λ u. IsUnder (get places 0) u × AllByRecursion (IsEventOf u) actor.pending) outputs
IsTypedTimed places outputs (SingleEvent actor) = ToFirst (λ u. IfSome actor.event (IsTokenOf u)) outputs
IsTypedTimed places outputs (TimeDelay actor) = ToFirst (λ u. IsUnder (get places 0) u × AllByRecursion (IsEventOf u) actor.pending) outputs
