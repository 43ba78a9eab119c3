-- What the row of each flow actor asks of the types of its places and of its outputs, and of the tokens that it holds.
use Rattle.std.specs.Prelude.{List, [], ◌∷◌}
use Rattle.std.specs.List.{AllByRecursion}
use Rattle.pt_meaning.specs.Streams.{get}
use Rattle.pt_value.specs.Value.{Value}
use Rattle.pt_datatypes.specs.Datatype.{Datatype, Int}
use Rattle.pt_datatypes.specs.Order.{IsBelow}
use Rattle.pt_datatypes.specs.Token.{type_of_value}
use Rattle.pt_language.specs.Rule.{type_or_general}
use Rattle.pt_lib_flow.specs.declared.flow_actor.FlowActor.{FlowActor}
use Rattle.pt_lib_flow.specs.declared.flow_actor.FlowActor.TheVariants.{AbsoluteValue, Accumulator, AddSubtract, BooleanSelect, BooleanSwitch, Const, Counter, DownSample, Expression, Extreme, MultiplyDivide, Ramp, Repeat, SampleDelay, Scale, Sequence, UpSample}
use Rattle.pt_formula.specs.Formula.{types_of}
use Rattle.pt_typed.specs.TokenTypes.{IsTokenOf, IsUnder, ToFirst}

-- there are two outputs, and the types of both are such
abbrev pub ToBoth : (Datatype → Type 0) → List Datatype → Type 0
ToBoth P [] = ⊥
ToBoth P (u ∷ []) = ⊥
ToBoth P (u ∷ v ∷ vs) = P u × P v

-- a value is of a type: its own type is below
abbrev pub IsValueOf : Datatype → Value → Type 0
IsValueOf t v = IsBelow (type_of_value v) t

-- class by class
abbrev pub IsTypedFlow : (places outputs : List Datatype) → FlowActor → Type 0
IsTypedFlow places outputs (AbsoluteValue actor) = ToFirst (λ u. IsBelow Int u) outputs
IsTypedFlow places outputs (Accumulator actor) = ToFirst (λ u. IsBelow Int u) outputs
IsTypedFlow places outputs (AddSubtract actor) = ToFirst (λ u. IsBelow Int u) outputs
IsTypedFlow places outputs (BooleanSelect actor) = ToFirst (λ u. IsUnder (get places 0) u × IsUnder (get places 1) u) outputs
IsTypedFlow places outputs (BooleanSwitch actor) = ToBoth (λ u. IsUnder (get places 0) u) outputs
IsTypedFlow places outputs (Const actor) = ToFirst (λ u. IsTokenOf u actor.value) outputs
IsTypedFlow places outputs (Counter actor) = ToFirst (λ u. IsBelow Int u) outputs
IsTypedFlow places outputs (DownSample actor) = ToFirst (λ u. IsUnder (get places 0) u) outputs
IsTypedFlow places outputs (Expression actor) = ToFirst (λ u. IsBelow (type_or_general (types_of actor) actor.tree) u) outputs
IsTypedFlow places outputs (Extreme actor) = ToFirst (λ u. IsBelow Int u) outputs
IsTypedFlow places outputs (MultiplyDivide actor) = ToFirst (λ u. IsBelow Int u) outputs
IsTypedFlow places outputs (Ramp actor) = ToFirst (λ u. IsBelow Int u) outputs
IsTypedFlow places outputs (Repeat actor) = ToFirst (λ u. IsUnder (get places 0) u) outputs
IsTypedFlow places outputs (SampleDelay actor) = ToFirst (λ u. IsUnder (get places 0) u) outputs × AllByRecursion (λ u. AllByRecursion (IsTokenOf u) actor.initial) outputs
IsTypedFlow places outputs (Scale actor) = ToFirst (λ u. IsBelow Int u) outputs
IsTypedFlow places outputs (Sequence actor) = ToFirst (λ u. AllByRecursion (IsValueOf u) actor.values) outputs
IsTypedFlow places outputs (UpSample actor) = ToFirst (λ u. IsBelow Int u) outputs
