-- Which actor the parameters of a class start, and what that class asks of types beside what the parameters hold.
use Rattle.std.proofs.Common.{◌≡◌, ℕ, List, Bool, true, false, Option, Some, None, refl, ap, subst, ◌∙◌, if◌then◌else◌}
use Rattle.std.specs.Prelude.{codes, option_map, bytes_eq}
use Rattle.std.proofs.lemmas.Slice.Eq.{bytes_eq-Decides}
use Rattle.pt_meaning.specs.Streams.{get}
use Rattle.pt_datatypes.specs.Datatype.{Datatype, Int}
use Rattle.pt_datatypes.specs.Order.{IsBelow}
use Rattle.pt_flow_base.specs.declared.params.Params.{Params}
use Rattle.pt_lib_flow.specs.declared.flow_actor.Class.{Class}
use Rattle.pt_lib_flow.specs.declared.flow_actor.Class.TheVariants as class
use Rattle.pt_lib_flow.specs.declared.flow_actor.FlowActor.{FlowActor}
use Rattle.pt_lib_flow.specs.declared.flow_actor.FlowActor.TheVariants.{AbsoluteValue, Accumulator, AddSubtract, BooleanSelect, BooleanSwitch, Counter, DownSample, Extreme, MultiplyDivide, Ramp, Repeat, Scale, UpSample}
use Rattle.pt_flow_numbers.specs.declared.extreme.Side.TheVariants.{Greatest, Least}
use Rattle.pt_lib_flow.specs.FlowActor.{class_of, start_as}
use Rattle.pt_flow_numbers.specs.AbsoluteValue as absolute_value
use Rattle.pt_flow_numbers.specs.Accumulator as accumulator
use Rattle.pt_flow_numbers.specs.AddSubtract as add_subtract
use Rattle.pt_flow_streams.specs.BooleanSelect as boolean_select
use Rattle.pt_flow_streams.specs.BooleanSwitch as boolean_switch
use Rattle.pt_flow_numbers.specs.Counter as counter
use Rattle.pt_flow_streams.specs.DownSample as down_sample
use Rattle.pt_flow_numbers.specs.Extreme as extreme
use Rattle.pt_flow_numbers.specs.MultiplyDivide as multiply_divide
use Rattle.pt_flow_numbers.specs.Ramp as ramp
use Rattle.pt_flow_streams.specs.Repeat as repeat
use Rattle.pt_flow_numbers.specs.Scale as scale
use Rattle.pt_flow_streams.specs.UpSample as up_sample
use Rattle.pt_typed.specs.TokenTypes.{IsUnder, ToFirst}
use Rattle.pt_typed.specs.TypedFlow.{ToBoth, IsTypedFlow}

-- ---- names

abbrev pub name_of : Class → List ℕ
name_of class.AbsoluteValue = codes "AbsoluteValue"
name_of class.Accumulator = codes "Accumulator"
name_of class.AddSubtract = codes "AddSubtract"
name_of class.BooleanSelect = codes "BooleanSelect"
name_of class.BooleanSwitch = codes "BooleanSwitch"
name_of class.Const = codes "Const"
name_of class.Counter = codes "Counter"
name_of class.DownSample = codes "DownSample"
name_of class.Expression = codes "Expression"
name_of class.Maximum = codes "Maximum"
name_of class.Minimum = codes "Minimum"
name_of class.MultiplyDivide = codes "MultiplyDivide"
name_of class.Ramp = codes "Ramp"
name_of class.Repeat = codes "Repeat"
name_of class.SampleDelay = codes "SampleDelay"
name_of class.Scale = codes "Scale"
name_of class.Sequence = codes "Sequence"
name_of class.UpSample = codes "UpSample"

or-named : (name this : List ℕ) (c d : Class) (later : Option Class) → (later ≡ Some d → name ≡ name_of d) → this ≡ name_of c → (if bytes_eq name this then Some c else later) ≡ Some d → name ≡ name_of d
or-named name this c d later more is e = by_test (bytes_eq name this) refl e
  where
    by_test : (b : Bool) → bytes_eq name this ≡ b → (if b then Some c else later) ≡ Some d → name ≡ name_of d
    by_test true t h = let same : c ≡ d = cc in (bytes_eq-Decides name this).0 t ∙ is ∙ ap name_of same
    by_test false t h = more h

-- the name of a class that is found
pub class-named : (name : List ℕ) (d : Class) → class_of name ≡ Some d → name ≡ name_of d
class-named name d is =
    (or-named name (codes "AbsoluteValue") class.AbsoluteValue d _ (or-named name (codes "Accumulator") class.Accumulator d _ (or-named name (codes "AddSubtract") class.AddSubtract d _ (or-named name (codes "BooleanSelect") class.BooleanSelect d _ (or-named name (codes "BooleanSwitch") class.BooleanSwitch d _ (or-named name (codes "Const") class.Const d _ (or-named name (codes "Counter") class.Counter d _ (or-named name (codes "DownSample") class.DownSample d _ (or-named name (codes "Expression") class.Expression d _ (or-named name (codes "Maximum") class.Maximum d _ (or-named name (codes "Minimum") class.Minimum d _ (or-named name (codes "MultiplyDivide") class.MultiplyDivide d _ (or-named name (codes "Ramp") class.Ramp d _ (or-named name (codes "Repeat") class.Repeat d _ (or-named name (codes "SampleDelay") class.SampleDelay d _ (or-named name (codes "Scale") class.Scale d _ (or-named name (codes "Sequence") class.Sequence d _ (or-named name (codes "UpSample") class.UpSample d None (λ none. absurd (cc)) refl) refl) refl) refl) refl) refl) refl) refl) refl) refl) refl) refl) refl) refl) refl) refl) refl) refl) is

-- ---- what a class asks

-- of the types, where what its actor does depends on its inputs alone; else what the row of the actor asks
abbrev pub FlowAsks : (places outputs : List Datatype) → Class → Params → Type 0
FlowAsks places outputs class.AbsoluteValue params = ToFirst (λ u. IsBelow Int u) outputs
FlowAsks places outputs class.Accumulator params = ToFirst (λ u. IsBelow Int u) outputs
FlowAsks places outputs class.AddSubtract params = ToFirst (λ u. IsBelow Int u) outputs
FlowAsks places outputs class.BooleanSelect params = ToFirst (λ u. IsUnder (get places 0) u × IsUnder (get places 1) u) outputs
FlowAsks places outputs class.BooleanSwitch params = ToBoth (λ u. IsUnder (get places 0) u) outputs
FlowAsks places outputs class.Const params = (a : FlowActor) → start_as class.Const params ≡ Some a → IsTypedFlow places outputs a
FlowAsks places outputs class.Counter params = ToFirst (λ u. IsBelow Int u) outputs
FlowAsks places outputs class.DownSample params = ToFirst (λ u. IsUnder (get places 0) u) outputs
FlowAsks places outputs class.Expression params = (a : FlowActor) → start_as class.Expression params ≡ Some a → IsTypedFlow places outputs a
FlowAsks places outputs class.Maximum params = ToFirst (λ u. IsBelow Int u) outputs
FlowAsks places outputs class.Minimum params = ToFirst (λ u. IsBelow Int u) outputs
FlowAsks places outputs class.MultiplyDivide params = ToFirst (λ u. IsBelow Int u) outputs
FlowAsks places outputs class.Ramp params = ToFirst (λ u. IsBelow Int u) outputs
FlowAsks places outputs class.Repeat params = ToFirst (λ u. IsUnder (get places 0) u) outputs
FlowAsks places outputs class.SampleDelay params = (a : FlowActor) → start_as class.SampleDelay params ≡ Some a → IsTypedFlow places outputs a
FlowAsks places outputs class.Scale params = ToFirst (λ u. IsBelow Int u) outputs
FlowAsks places outputs class.Sequence params = (a : FlowActor) → start_as class.Sequence params ≡ Some a → IsTypedFlow places outputs a
FlowAsks places outputs class.UpSample params = ToFirst (λ u. IsBelow Int u) outputs

pub mapped : {S A : Type 0} (wrap : S → A) (o : Option S) (a : A) → option_map wrap o ≡ Some a → (x : S) × (o ≡ Some x) × (wrap x ≡ a)
mapped wrap None a e = absurd (cc)
mapped wrap (Some x) a e = let same : wrap x ≡ a = cc in (x, refl, same)

-- an actor that is started has what its class asks
pub flow-asked : (places outputs : List Datatype) (c : Class) (params : Params) (a : FlowActor) → start_as c params ≡ Some a → FlowAsks places outputs c params → IsTypedFlow places outputs a
flow-asked places outputs class.AbsoluteValue params a e h = let w = mapped AbsoluteValue (absolute_value.start params) a e in subst (IsTypedFlow places outputs) w.2 h
flow-asked places outputs class.Accumulator params a e h = let w = mapped Accumulator (accumulator.start params) a e in subst (IsTypedFlow places outputs) w.2 h
flow-asked places outputs class.AddSubtract params a e h = let w = mapped AddSubtract (add_subtract.start params) a e in subst (IsTypedFlow places outputs) w.2 h
flow-asked places outputs class.BooleanSelect params a e h = let w = mapped BooleanSelect (boolean_select.start params) a e in subst (IsTypedFlow places outputs) w.2 h
flow-asked places outputs class.BooleanSwitch params a e h = let w = mapped BooleanSwitch (boolean_switch.start params) a e in subst (IsTypedFlow places outputs) w.2 h
flow-asked places outputs class.Const params a e h = h a e
flow-asked places outputs class.Counter params a e h = let w = mapped Counter (counter.start params) a e in subst (IsTypedFlow places outputs) w.2 h
flow-asked places outputs class.DownSample params a e h = let w = mapped DownSample (down_sample.start params) a e in subst (IsTypedFlow places outputs) w.2 h
flow-asked places outputs class.Expression params a e h = h a e
flow-asked places outputs class.Maximum params a e h = let w = mapped Extreme (extreme.start Greatest params) a e in subst (IsTypedFlow places outputs) w.2 h
flow-asked places outputs class.Minimum params a e h = let w = mapped Extreme (extreme.start Least params) a e in subst (IsTypedFlow places outputs) w.2 h
flow-asked places outputs class.MultiplyDivide params a e h = let w = mapped MultiplyDivide (multiply_divide.start params) a e in subst (IsTypedFlow places outputs) w.2 h
flow-asked places outputs class.Ramp params a e h = let w = mapped Ramp (ramp.start params) a e in subst (IsTypedFlow places outputs) w.2 h
flow-asked places outputs class.Repeat params a e h = let w = mapped Repeat (repeat.start params) a e in subst (IsTypedFlow places outputs) w.2 h
flow-asked places outputs class.SampleDelay params a e h = h a e
flow-asked places outputs class.Scale params a e h = let w = mapped Scale (scale.start params) a e in subst (IsTypedFlow places outputs) w.2 h
flow-asked places outputs class.Sequence params a e h = h a e
flow-asked places outputs class.UpSample params a e h = let w = mapped UpSample (up_sample.start params) a e in subst (IsTypedFlow places outputs) w.2 h
