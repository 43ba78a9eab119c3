-- What the row of each actor of synchronous models asks of the types of its places and of its output, and of the token that it keeps.
use Rattle.std.specs.Prelude.{List, drop, IfSome}
use Rattle.std.specs.List.{AllByRecursion}
use Rattle.pt_meaning.specs.Streams.{get}
use Rattle.pt_datatypes.specs.Datatype.{Datatype, Boolean}
use Rattle.pt_datatypes.specs.Order.{IsBelow}
use Rattle.pt_lib_time.specs.declared.time_actor.TimeActor.{TimeActor}
use Rattle.pt_lib_time.specs.declared.time_actor.TimeActor.TheVariants.{Absent, Current, Default, Merge, NonStrictDelay, NonStrictLogicGate, NonStrictMux, Pre, When}
use Rattle.pt_typed.specs.TokenTypes.{IsTokenOf, IsUnder, ToFirst}

-- class by class: the first place of a NonStrictMux is that of select, and nothing passes from there
abbrev pub IsTypedTime : (places outputs : List Datatype) → TimeActor → Type 0
IsTypedTime places outputs (Absent actor) = ToFirst (λ u. Unit {0}) outputs
IsTypedTime places outputs (Current actor) = ToFirst (λ u. IsUnder (get places 0) u × IfSome actor.kept (IsTokenOf u)) outputs
IsTypedTime places outputs (Default actor) = ToFirst (λ u. IsUnder (get places 0) u × IsUnder (get places 1) u) outputs
IsTypedTime places outputs (Merge actor) = ToFirst (λ u. AllByRecursion (λ t. IsBelow t u) places) outputs
IsTypedTime places outputs (NonStrictDelay actor) = ToFirst (λ u. IsUnder (get places 0) u × IfSome actor.kept (IsTokenOf u)) outputs
IsTypedTime places outputs (NonStrictLogicGate actor) = ToFirst (λ u. IsBelow Boolean u) outputs
IsTypedTime places outputs (NonStrictMux actor) = ToFirst (λ u. AllByRecursion (λ t. IsBelow t u) (drop 1 places)) outputs
IsTypedTime places outputs (Pre actor) = ToFirst (λ u. IsUnder (get places 0) u × IfSome actor.kept (IsTokenOf u)) outputs
IsTypedTime places outputs (When actor) = ToFirst (λ u. IsUnder (get places 0) u) outputs
