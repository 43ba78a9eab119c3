-- Which function the parameters of a class of data start, and what that class asks of types.
use Rattle.std.proofs.Common.{◌≡◌, ℕ, List, Bool, true, false, Option, Some, None, refl, sym, ap, subst, ◌∙◌, if◌then◌else◌}
use Rattle.std.specs.Prelude.{codes, bytes_eq}
use Rattle.std.proofs.lemmas.Slice.Eq.{bytes_eq-Decides}
use Rattle.pt_meaning.specs.Streams.{get}
use Rattle.pt_value.specs.declared.token.Token.{Token}
use Rattle.pt_datatypes.specs.Datatype.{Datatype, Int, Boolean}
use Rattle.pt_datatypes.specs.Order.{IsBelow}
use Rattle.pt_firing.specs.Params.{names_but}
use Rattle.pt_lib_data.specs.declared.data_actor.DataActor.{DataActor}
use Rattle.pt_lib_data.specs.declared.function.Class.{Class}
use Rattle.pt_lib_data.specs.declared.function.Class.TheVariants as class
use Rattle.pt_lib_data.specs.declared.function.Function.{Function}
use Rattle.pt_lib_data.specs.declared.function.Function.TheVariants.{ArrayElement, ArrayToSequence, Barrier, Comparator, Discard, ElementsToArray, Equals, Limiter, LogicFunction, LogicalNot, RecordAssembler, RecordDisassembler, SequenceToArray, StringLength}
use Rattle.pt_lib_data.specs.ArrayElement as array_element
use Rattle.pt_lib_data.specs.Comparator as comparator
use Rattle.pt_lib_data.specs.Limiter as limiter
use Rattle.pt_lib_data.specs.LogicFunction as logic_function
use Rattle.pt_lib_data.specs.SequenceToArray as sequence_to_array
use Rattle.pt_lib_data.specs.Function.{class_of, start_as}
use Rattle.pt_lib_data.specs.DataActor.{with_needs, started_as}
use Rattle.pt_typed.specs.TokenTypes.{IsUnder, ToFirst, elements_of}
use Rattle.pt_typed.specs.TypedData.{TakesArrays, IsTypedFunction}
use Rattle.pt_typed.proofs.FlowStarts.{mapped}

abbrev pub name_of : Class → List ℕ
name_of class.ArrayElement = codes "ArrayElement"
name_of class.ArrayToSequence = codes "ArrayToSequence"
name_of class.Barrier = codes "Barrier"
name_of class.Comparator = codes "Comparator"
name_of class.Discard = codes "Discard"
name_of class.ElementsToArray = codes "ElementsToArray"
name_of class.Equals = codes "Equals"
name_of class.Limiter = codes "Limiter"
name_of class.LogicFunction = codes "LogicFunction"
name_of class.LogicalNot = codes "LogicalNot"
name_of class.RecordAssembler = codes "RecordAssembler"
name_of class.RecordDisassembler = codes "RecordDisassembler"
name_of class.SequenceToArray = codes "SequenceToArray"
name_of class.StringLength = codes "StringLength"

or-named : (name this : List ℕ) (c d : Class) (later : Option Class) → (later ≡ Some d → name ≡ name_of d) → this ≡ name_of c → (if bytes_eq name this then Some c else later) ≡ Some d → name ≡ name_of d
or-named name this c d later more is e = by_test (bytes_eq name this) refl e
  where
    by_test : (b : Bool) → bytes_eq name this ≡ b → (if b then Some c else later) ≡ Some d → name ≡ name_of d
    by_test true t h = let same : c ≡ d = cc in (bytes_eq-Decides name this).0 t ∙ is ∙ ap name_of same
    by_test false t h = more h

-- the name of a class that is found
pub class-named : (name : List ℕ) (d : Class) → class_of name ≡ Some d → name ≡ name_of d
class-named name d is =
    (or-named name (codes "ArrayElement") class.ArrayElement d _ (or-named name (codes "ArrayToSequence") class.ArrayToSequence d _ (or-named name (codes "Barrier") class.Barrier d _ (or-named name (codes "Comparator") class.Comparator d _ (or-named name (codes "Discard") class.Discard d _ (or-named name (codes "ElementsToArray") class.ElementsToArray d _ (or-named name (codes "Equals") class.Equals d _ (or-named name (codes "Limiter") class.Limiter d _ (or-named name (codes "LogicFunction") class.LogicFunction d _ (or-named name (codes "LogicalNot") class.LogicalNot d _ (or-named name (codes "RecordAssembler") class.RecordAssembler d _ (or-named name (codes "RecordDisassembler") class.RecordDisassembler d _ (or-named name (codes "SequenceToArray") class.SequenceToArray d _ (or-named name (codes "StringLength") class.StringLength d None (λ none. absurd (cc)) refl) refl) refl) refl) refl) refl) refl) refl) refl) refl) refl) refl) refl) refl) is

-- what a class asks of the types
abbrev pub DataAsks : (places outputs : List Datatype) → Class → List (List ℕ × ℕ) → Type 0
DataAsks places outputs class.ArrayElement ports = ToFirst (λ u. IsUnder (elements_of (get places 0)) u) outputs
DataAsks places outputs class.ArrayToSequence ports = ToFirst (λ u. IsUnder (elements_of (get places 0)) u) outputs
DataAsks places outputs class.Barrier ports = ToFirst (λ u. TakesArrays places u) outputs
DataAsks places outputs class.Comparator ports = ToFirst (λ u. IsBelow Boolean u) outputs
DataAsks places outputs class.Discard ports = Unit {0}
DataAsks places outputs class.ElementsToArray ports = ToFirst (λ u. TakesArrays places u) outputs
DataAsks places outputs class.Equals ports = ToFirst (λ u. IsBelow Boolean u) outputs
DataAsks places outputs class.Limiter ports = ToFirst (λ u. IsBelow Int u) outputs
DataAsks places outputs class.LogicFunction ports = ToFirst (λ u. IsBelow Boolean u) outputs
DataAsks places outputs class.LogicalNot ports = ToFirst (λ u. IsBelow Boolean u) outputs
DataAsks places outputs class.RecordAssembler ports = IsTypedFunction places outputs (RecordAssembler (names_but (codes "output") ports))
DataAsks places outputs class.RecordDisassembler ports = IsTypedFunction places outputs (RecordDisassembler (names_but (codes "input") ports))
DataAsks places outputs class.SequenceToArray ports = ToFirst (λ u. TakesArrays places u) outputs
DataAsks places outputs class.StringLength ports = ToFirst (λ u. IsBelow Int u) outputs

function-asked : (places outputs : List Datatype) (c : Class) (values : List (List ℕ × Token)) (ports : List (List ℕ × ℕ)) (f : Function) → start_as c values ports ≡ Some f → DataAsks places outputs c ports → IsTypedFunction places outputs f
function-asked places outputs class.ArrayElement values ports f e h = let w = mapped ArrayElement (array_element.start values) f e in subst (IsTypedFunction places outputs) w.2 h
function-asked places outputs class.ArrayToSequence values ports f e h = let w = mapped ArrayToSequence (sequence_to_array.start values) f e in subst (IsTypedFunction places outputs) w.2 h
function-asked places outputs class.Barrier values ports f e h = let same : Barrier ≡ f = cc in subst (IsTypedFunction places outputs) same h
function-asked places outputs class.Comparator values ports f e h = let w = mapped Comparator (comparator.start values) f e in subst (IsTypedFunction places outputs) w.2 h
function-asked places outputs class.Discard values ports f e h = let same : Discard ≡ f = cc in subst (IsTypedFunction places outputs) same h
function-asked places outputs class.ElementsToArray values ports f e h = let same : ElementsToArray ≡ f = cc in subst (IsTypedFunction places outputs) same h
function-asked places outputs class.Equals values ports f e h = let same : Equals ≡ f = cc in subst (IsTypedFunction places outputs) same h
function-asked places outputs class.Limiter values ports f e h = let w = mapped Limiter (limiter.start values) f e in subst (IsTypedFunction places outputs) w.2 h
function-asked places outputs class.LogicFunction values ports f e h = let w = mapped LogicFunction (logic_function.start values) f e in subst (IsTypedFunction places outputs) w.2 h
function-asked places outputs class.LogicalNot values ports f e h = let same : LogicalNot ≡ f = cc in subst (IsTypedFunction places outputs) same h
function-asked places outputs class.RecordAssembler values ports f e h = let same : (RecordAssembler (names_but (codes "output") ports)) ≡ f = cc in subst (IsTypedFunction places outputs) same h
function-asked places outputs class.RecordDisassembler values ports f e h = let same : (RecordDisassembler (names_but (codes "input") ports)) ≡ f = cc in subst (IsTypedFunction places outputs) same h
function-asked places outputs class.SequenceToArray values ports f e h = let w = mapped SequenceToArray (sequence_to_array.start values) f e in subst (IsTypedFunction places outputs) w.2 h
function-asked places outputs class.StringLength values ports f e h = let same : StringLength ≡ f = cc in subst (IsTypedFunction places outputs) same h

pub with-needs : (ports : List (List ℕ × ℕ)) (o : Option Function) (a : DataActor) → with_needs ports o ≡ Some a → (f : Function) × (o ≡ Some f) × (a.function ≡ f)
with-needs ports None a e = absurd (cc)
with-needs ports (Some f) a e = (f, refl, sym (some-function _ a e))
  where
    some-function : (x y : DataActor) → Some x ≡ Some y → x.function ≡ y.function
    some-function x y h = let same : x ≡ y = cc in ap (λ (z : DataActor). z.function) same

-- an actor that is started has what its class asks
pub data-asked : (places outputs : List Datatype) (c : Class) (values : List (List ℕ × Token)) (ports : List (List ℕ × ℕ)) (a : DataActor) → started_as c values ports ≡ Some a → DataAsks places outputs c ports → IsTypedFunction places outputs a.function
data-asked places outputs c values ports a e h =
    let w = with-needs ports (start_as c values ports) a e in
    subst (IsTypedFunction places outputs) (sym w.2) (function-asked places outputs c values ports w.0 w.1 h)
