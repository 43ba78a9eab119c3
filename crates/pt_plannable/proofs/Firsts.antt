-- How many first tokens an actor of a net has: those of a SampleDelay are the elements of a short array.
use Rattle.std.proofs.Common.{◌≡◌, ◌≤◌, inl, inr, pos, List, [], ◌∷◌, length, map, Option, Some, None, refl, sym, ap, subst, arith}
use Rattle.std.specs.Prelude.{codes}
use Rattle.std.specs.List.{AllByRecursion}
use Rattle.std.proofs.lemmas.List.{length-map}
use Rattle.std.proofs.lemmas.Option.{none-some, same_Some}
use Rattle.pt_value.specs.Value.{Value, values_of, list_of, list_of-values_of}
use Rattle.pt_value.specs.Token.{token_of, value_of}
use Rattle.pt_value.specs.declared.token.Token.{Token}
use Rattle.pt_value.specs.declared.token.Token.TheVariants as token
use Rattle.pt_firing.specs.Params.{value_under}
use Rattle.pt_flow_base.specs.declared.params.Params.{Params}
use Rattle.pt_flow_numbers.specs.declared.extreme.Side.TheVariants.{Greatest, Least}
use Rattle.pt_flow_streams.specs.declared.sample_delay.SampleDelay.{SampleDelay}
use Rattle.pt_lib_flow.specs.declared.flow_actor.Class.{Class as FlowClass}
use Rattle.pt_lib_flow.specs.declared.flow_actor.Class.TheVariants as class
use Rattle.pt_lib_flow.specs.declared.flow_actor.FlowActor.{FlowActor}
use Rattle.pt_lib_flow.specs.declared.flow_actor.FlowActor.TheVariants as flow
use Rattle.pt_lib_flow.specs.FlowActor as flow_actor
use Rattle.pt_flow_numbers.specs.AbsoluteValue as absolute_value
use Rattle.pt_flow_numbers.specs.Accumulator as accumulator
use Rattle.pt_flow_numbers.specs.AddSubtract as add_subtract
use Rattle.pt_flow_streams.specs.BooleanSelect as boolean_select
use Rattle.pt_flow_streams.specs.BooleanSwitch as boolean_switch
use Rattle.pt_flow_streams.specs.Const as constant
use Rattle.pt_flow_numbers.specs.Counter as counter
use Rattle.pt_flow_streams.specs.DownSample as down_sample
use Rattle.pt_lib_flow.specs.Expression as expression
use Rattle.pt_flow_numbers.specs.Extreme as extreme
use Rattle.pt_flow_numbers.specs.MultiplyDivide as multiply_divide
use Rattle.pt_flow_numbers.specs.Ramp as ramp
use Rattle.pt_flow_streams.specs.Repeat as repeat
use Rattle.pt_flow_streams.specs.SampleDelay as sample_delay
use Rattle.pt_flow_numbers.specs.Scale as scale
use Rattle.pt_flow_streams.specs.Sequence as sequence
use Rattle.pt_flow_streams.specs.UpSample as up_sample
use Rattle.pt_lib_data.specs.DataActor as data_actor
use Rattle.pt_lib_time.specs.TimeActor as time_actor
use Rattle.pt_lib_timed.specs.TimedActor as timed_actor
use Rattle.pt_library.specs.declared.library_actor.LibraryActor.{LibraryActor}
use Rattle.pt_library.specs.declared.library_actor.LibraryActor.TheVariants.{Flow, Data, Time, Timed}
use Rattle.pt_library.specs.LibraryActor as library
use Rattle.pt_typed.proofs.FlowStarts.{mapped}
use Rattle.pt_typed.proofs.RowsMet.{one-of-four, flow-in}
use Rattle.pt_plannable.proofs.Values.{IsShort}
use Rattle.pt_plannable.proofs.Seen.{IsShortToken, under-short}

-- ---- a SampleDelay

initial-few : (o : Option Token) (ts : List Token) → ((t : Token) → o ≡ Some t → IsShort (value_of t)) → sample_delay.initial_of o ≡ Some ts → length ts ≤ 65536
initial-few None ts h e = let one : length ts ≡ 1 = ap (λ (v : List Token). length v) (sym (same_Some (token.Int (pos 0) ∷ []) ts e)) in omega (arith, one)
initial-few (Some (token.Array vs)) ts h e =
    let short = (h (token.Array vs) refl).0 in
    let same : length ts ≡ length (map token_of vs) = ap (λ (v : List Token). length v) (sym (same_Some (map token_of vs) ts e)) in
    let mapped-long = length-map vs token_of in
    let long : length (list_of (values_of vs)) ≡ length vs = ap (λ (v : List Value). length v) (list_of-values_of vs) in
    omega (arith, short, same, mapped-long, long)
initial-few (Some (token.Int n)) ts h e = absurd (none-some ts e)
initial-few (Some (token.Bool b)) ts h e = absurd (none-some ts e)
initial-few (Some (token.Text t)) ts h e = absurd (none-some ts e)
initial-few (Some (token.Record fs)) ts h e = absurd (none-some ts e)

delay-by : (o : Option (List Token)) (a : SampleDelay) → sample_delay.start_by o ≡ Some a → o ≡ Some a.initial
delay-by None a e = absurd (none-some a e)
delay-by (Some ts) a e = ap (λ (x : SampleDelay). Some x.initial) (same_Some (record { initial = ts; places = 1 }) a e)

delay-few : (params : Params) (a : SampleDelay) → AllByRecursion IsShortToken params.values → sample_delay.start params ≡ Some a → length a.initial ≤ 65536
delay-few params a short e =
    let name = codes "initialOutputs" in
    initial-few (value_under name params.values) a.initial (λ t is. under-short name params.values t short is) (delay-by (sample_delay.initial_of (value_under name params.values)) a e)

-- ---- actors

abbrev IsFew : FlowActor → Type 0
IsFew a = length (flow_actor.first a) ≤ 65536

flow-few : (c : FlowClass) (params : Params) (a : FlowActor) → AllByRecursion IsShortToken params.values → flow_actor.start_as c params ≡ Some a → IsFew a
flow-few class.AbsoluteValue params a short e = let w = mapped flow.AbsoluteValue (absolute_value.start params) a e in subst IsFew w.2 (omega arith)
flow-few class.Accumulator params a short e = let w = mapped flow.Accumulator (accumulator.start params) a e in subst IsFew w.2 (omega arith)
flow-few class.AddSubtract params a short e = let w = mapped flow.AddSubtract (add_subtract.start params) a e in subst IsFew w.2 (omega arith)
flow-few class.BooleanSelect params a short e = let w = mapped flow.BooleanSelect (boolean_select.start params) a e in subst IsFew w.2 (omega arith)
flow-few class.BooleanSwitch params a short e = let w = mapped flow.BooleanSwitch (boolean_switch.start params) a e in subst IsFew w.2 (omega arith)
flow-few class.Const params a short e = let w = mapped flow.Const (constant.start params) a e in subst IsFew w.2 (omega arith)
flow-few class.Counter params a short e = let w = mapped flow.Counter (counter.start params) a e in subst IsFew w.2 (omega arith)
flow-few class.DownSample params a short e = let w = mapped flow.DownSample (down_sample.start params) a e in subst IsFew w.2 (omega arith)
flow-few class.Expression params a short e = let w = mapped flow.Expression (expression.start params) a e in subst IsFew w.2 (omega arith)
flow-few class.Maximum params a short e = let w = mapped flow.Extreme (extreme.start Greatest params) a e in subst IsFew w.2 (omega arith)
flow-few class.Minimum params a short e = let w = mapped flow.Extreme (extreme.start Least params) a e in subst IsFew w.2 (omega arith)
flow-few class.MultiplyDivide params a short e = let w = mapped flow.MultiplyDivide (multiply_divide.start params) a e in subst IsFew w.2 (omega arith)
flow-few class.Ramp params a short e = let w = mapped flow.Ramp (ramp.start params) a e in subst IsFew w.2 (omega arith)
flow-few class.Repeat params a short e = let w = mapped flow.Repeat (repeat.start params) a e in subst IsFew w.2 (omega arith)
flow-few class.SampleDelay params a short e = let w = mapped flow.SampleDelay (sample_delay.start params) a e in subst IsFew w.2 (delay-few params w.0 short w.1)
flow-few class.Scale params a short e = let w = mapped flow.Scale (scale.start params) a e in subst IsFew w.2 (omega arith)
flow-few class.Sequence params a short e = let w = mapped flow.Sequence (sequence.start params) a e in subst IsFew w.2 (omega arith)
flow-few class.UpSample params a short e = let w = mapped flow.UpSample (up_sample.start params) a e in subst IsFew w.2 (omega arith)

-- an actor that is started from tokens with short arrays has at most as many first tokens as an array has elements
pub first-few : (params : Params) (a : LibraryActor) → AllByRecursion IsShortToken params.values → library.start params ≡ Some a → length (library.first a) ≤ 65536
first-few params (Flow a) short e = elim (one-of-four Flow Data Time Timed (flow_actor.start params) (data_actor.start params.class params.values params.ports) (time_actor.start params) (timed_actor.start params) (Flow a) e) [
  | inl w ↦ (
      let c = flow-in (flow_actor.class_of params.class) params w.0 w.1 in
      let same : w.0 ≡ a = (let h : Flow w.0 ≡ Flow a = w.2 in cc) in
      subst IsFew same (flow-few c.0 params w.0 short c.2))
  | inr (inl w) ↦ absurd (let no : Data w.0 ≡ Flow a = w.2 in cc)
  | inr (inr (inl w)) ↦ absurd (let no : Time w.0 ≡ Flow a = w.2 in cc)
  | inr (inr (inr w)) ↦ absurd (let no : Timed w.0 ≡ Flow a = w.2 in cc)
]
first-few params (Data a) short e = omega arith
first-few params (Time a) short e = omega arith
first-few params (Timed a) short e = omega arith
