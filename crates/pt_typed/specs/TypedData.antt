-- What the row of each data actor asks of the types of its places and of its outputs.
use Rattle.std.specs.Prelude.{ℕ, List, [], ◌∷◌, Option}
use Rattle.std.specs.List.{AllByRecursion, zip}
use Rattle.pt_meaning.specs.Streams.{get}
use Rattle.pt_datatypes.specs.Datatype.{Datatype, Int, Boolean}
use Rattle.pt_datatypes.specs.Normal.{array_of}
use Rattle.pt_datatypes.specs.Order.{IsBelow}
use Rattle.pt_language.specs.Typing.{or_general}
use Rattle.pt_language.specs.TreeType.{recorded}
use Rattle.pt_lib_data.specs.declared.function.Function.{Function}
use Rattle.pt_lib_data.specs.declared.function.Function.TheVariants.{ArrayElement, ArrayToSequence, Barrier, Comparator, Discard, ElementsToArray, Equals, Limiter, LogicFunction, LogicalNot, RecordAssembler, RecordDisassembler, SequenceToArray, StringLength}
use Rattle.pt_typed.specs.TokenTypes.{IsUnder, ToFirst, elements_of, field_of}

-- one type above all places, whose arrays the output takes
pub record TakesArrays (places : List Datatype) (u : Datatype) : Type 0 where
  pub element : Datatype
  pub above : AllByRecursion (λ t. IsBelow t element) places
  pub taken : IsBelow (array_of element) u

-- each output takes the field of its name
abbrev pub TakeFields : Option Datatype → List (List ℕ) → List Datatype → Type 0
TakeFields o [] us = Unit {0}
TakeFields o (name ∷ names) [] = ⊥
TakeFields o (name ∷ names) (u ∷ us) = IsUnder (field_of name o) u × TakeFields o names us

-- class by class
abbrev pub IsTypedFunction : (places outputs : List Datatype) → Function → Type 0
IsTypedFunction places outputs (ArrayElement index) = ToFirst (λ u. IsUnder (elements_of (get places 0)) u) outputs
IsTypedFunction places outputs (ArrayToSequence count) = ToFirst (λ u. IsUnder (elements_of (get places 0)) u) outputs
IsTypedFunction places outputs Barrier = ToFirst (λ u. TakesArrays places u) outputs
IsTypedFunction places outputs (Comparator relation) = ToFirst (λ u. IsBelow Boolean u) outputs
IsTypedFunction places outputs Discard = Unit {0}
IsTypedFunction places outputs ElementsToArray = ToFirst (λ u. TakesArrays places u) outputs
IsTypedFunction places outputs Equals = ToFirst (λ u. IsBelow Boolean u) outputs
IsTypedFunction places outputs (Limiter range) = ToFirst (λ u. IsBelow Int u) outputs
IsTypedFunction places outputs (LogicFunction gate) = ToFirst (λ u. IsBelow Boolean u) outputs
IsTypedFunction places outputs LogicalNot = ToFirst (λ u. IsBelow Boolean u) outputs
IsTypedFunction places outputs (RecordAssembler names) = ToFirst (λ u. IsBelow (or_general (recorded (zip names places))) u) outputs
IsTypedFunction places outputs (RecordDisassembler names) = TakeFields (get places 0) names outputs
IsTypedFunction places outputs (SequenceToArray count) = ToFirst (λ u. TakesArrays places u) outputs
IsTypedFunction places outputs StringLength = ToFirst (λ u. IsBelow Int u) outputs
