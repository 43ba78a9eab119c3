-- Each parameter of an actor that gives tokens of its parameters has a token.
use Rattle.std.proofs.Common.{◌≡◌, inl, inr, ℕ, List, true, false, Some, refl, sym, ap, subst, ◌∙◌}
use Rattle.pt_scopes.specs.Forms.{form_of}
use Rattle.pt_scopes.specs.Scopes.{is_composite_class}
use Rattle.pt_flow_base.specs.declared.params.Params.{Params}
use Rattle.pt_flow_numbers.specs.declared.extreme.Side.TheVariants.{Greatest, Least}
use Rattle.pt_lib_flow.specs.declared.flow_actor.FlowActor.{FlowActor}
use Rattle.pt_lib_flow.specs.declared.flow_actor.FlowActor.TheVariants as flow
use Rattle.pt_lib_flow.specs.declared.flow_actor.Class.{Class as FlowClass}
use Rattle.pt_lib_flow.specs.declared.flow_actor.Class.TheVariants as class
use Rattle.pt_lib_flow.specs.FlowActor as flow_actor
use Rattle.pt_flow_numbers.specs.AbsoluteValue as absolute_value
use Rattle.pt_flow_numbers.specs.Accumulator as accumulator
use Rattle.pt_flow_numbers.specs.AddSubtract as add_subtract
use Rattle.pt_flow_streams.specs.BooleanSelect as boolean_select
use Rattle.pt_flow_streams.specs.BooleanSwitch as boolean_switch
use Rattle.pt_flow_numbers.specs.Counter as counter
use Rattle.pt_flow_streams.specs.DownSample as down_sample
use Rattle.pt_lib_flow.specs.Expression as expression
use Rattle.pt_flow_numbers.specs.Extreme as extreme
use Rattle.pt_flow_numbers.specs.MultiplyDivide as multiply_divide
use Rattle.pt_flow_numbers.specs.Ramp as ramp
use Rattle.pt_flow_streams.specs.Repeat as repeat
use Rattle.pt_flow_numbers.specs.Scale as scale
use Rattle.pt_flow_streams.specs.UpSample as up_sample
use Rattle.pt_lib_data.specs.DataActor as data_actor
use Rattle.pt_lib_time.specs.TimeActor as time_actor
use Rattle.pt_lib_timed.specs.TimedActor as timed_actor
use Rattle.pt_library.specs.declared.library_actor.LibraryActor.{LibraryActor}
use Rattle.pt_library.specs.declared.library_actor.LibraryActor.TheVariants.{Flow, Data, Time, Timed}
use Rattle.pt_library.specs.LibraryActor.{start}
use Rattle.pt_typed.specs.NetRows.{is_seeded_flow, is_seeded_actor}
use Rattle.pt_typed.specs.HeldLaw.{ParametersHoldTokens}
use Rattle.pt_typed.proofs.FlowStarts as flows
use Rattle.pt_typed.proofs.FlowStarts.{mapped}
use Rattle.pt_typed.proofs.TimeStarts as signals
use Rattle.pt_typed.proofs.TimedStarts as instants
use Rattle.pt_typed.proofs.RowsMet.{one-of-four, flow-in}
use Rattle.pt_typed.proofs.HeldLaws.{is_evaluated, const-values, sequence-values, delay-values, non-strict-delay-values, pre-values, clock-values, register-values, sampler-values, event-values, given-all, holds-tokens}

-- all parameters of a class of actors are evaluated
abbrev IsOfValues : List ℕ → Type 0
IsOfValues name = (is_composite_class name ≡ false) × ((parameter : List ℕ) → is_evaluated (form_of name parameter) ≡ true)

unseeded : {P : Type 0} (a b : FlowActor) → a ≡ b → is_seeded_flow a ≡ false → is_seeded_flow b ≡ true → P
unseeded a b e n s = absurd (let no : false ≡ true = sym n ∙ ap is_seeded_flow e ∙ s in cc)

seeded-class : (c : FlowClass) (params : Params) (a : FlowActor) → flow_actor.start_as c params ≡ Some a → is_seeded_flow a ≡ true → IsOfValues (flows.name_of c)
seeded-class class.Const params a e s = (refl, const-values)
seeded-class class.Sequence params a e s = (refl, sequence-values)
seeded-class class.SampleDelay params a e s = (refl, delay-values)
seeded-class class.AbsoluteValue params a e s = let w = mapped flow.AbsoluteValue (absolute_value.start params) a e in unseeded _ a w.2 refl s
seeded-class class.Accumulator params a e s = let w = mapped flow.Accumulator (accumulator.start params) a e in unseeded _ a w.2 refl s
seeded-class class.AddSubtract params a e s = let w = mapped flow.AddSubtract (add_subtract.start params) a e in unseeded _ a w.2 refl s
seeded-class class.BooleanSelect params a e s = let w = mapped flow.BooleanSelect (boolean_select.start params) a e in unseeded _ a w.2 refl s
seeded-class class.BooleanSwitch params a e s = let w = mapped flow.BooleanSwitch (boolean_switch.start params) a e in unseeded _ a w.2 refl s
seeded-class class.Counter params a e s = let w = mapped flow.Counter (counter.start params) a e in unseeded _ a w.2 refl s
seeded-class class.DownSample params a e s = let w = mapped flow.DownSample (down_sample.start params) a e in unseeded _ a w.2 refl s
seeded-class class.Expression params a e s = let w = mapped flow.Expression (expression.start params) a e in unseeded _ a w.2 refl s
seeded-class class.Maximum params a e s = let w = mapped flow.Extreme (extreme.start Greatest params) a e in unseeded _ a w.2 refl s
seeded-class class.Minimum params a e s = let w = mapped flow.Extreme (extreme.start Least params) a e in unseeded _ a w.2 refl s
seeded-class class.MultiplyDivide params a e s = let w = mapped flow.MultiplyDivide (multiply_divide.start params) a e in unseeded _ a w.2 refl s
seeded-class class.Ramp params a e s = let w = mapped flow.Ramp (ramp.start params) a e in unseeded _ a w.2 refl s
seeded-class class.Repeat params a e s = let w = mapped flow.Repeat (repeat.start params) a e in unseeded _ a w.2 refl s
seeded-class class.Scale params a e s = let w = mapped flow.Scale (scale.start params) a e in unseeded _ a w.2 refl s
seeded-class class.UpSample params a e s = let w = mapped flow.UpSample (up_sample.start params) a e in unseeded _ a w.2 refl s

of-values : (params : Params) (a : LibraryActor) → start params ≡ Some a → is_seeded_actor a ≡ true → IsOfValues params.class
of-values params a e s = elim (one-of-four Flow Data Time Timed (flow_actor.start params) (data_actor.start params.class params.values params.ports) (time_actor.start params) (timed_actor.start params) a e) [
  | inl w ↦ (
      let c = flow-in (flow_actor.class_of params.class) params w.0 w.1 in
      subst IsOfValues (sym (flows.class-named params.class c.0 c.1)) (seeded-class c.0 params w.0 c.2 (ap is_seeded_actor w.2 ∙ s)))
  | inr (inl w) ↦ absurd (let no : false ≡ true = ap is_seeded_actor w.2 ∙ s in cc)
  | inr (inr (inl w)) ↦ (
      let c = signals.time-in (time_actor.class_of params.class) params w.0 w.1 in
      subst IsOfValues (sym (signals.class-named params.class c.0 c.1)) (signals.seeded-class (λ d. IsOfValues (signals.name_of d)) c.0 params w.0 (refl, non-strict-delay-values) (refl, pre-values) c.2 (ap is_seeded_actor w.2 ∙ s)))
  | inr (inr (inr w)) ↦ (
      let c = instants.timed-in (timed_actor.class_of params.class) params w.0 w.1 in
      subst IsOfValues (sym (instants.class-named params.class c.0 c.1)) (instants.seeded-class (λ d. IsOfValues (instants.name_of d)) c.0 params w.0 (refl, clock-values) (refl, register-values) (refl, sampler-values) (refl, event-values) c.2 (ap is_seeded_actor w.2 ∙ s)))
]

pub parameters-hold-tokens : ParametersHoldTokens
parameters-hold-tokens net values typing k a is started s =
    let from = started.started_from in
    let own : IsOfValues from.entity.class = subst IsOfValues from.from.class_is (of-values started.params a started.is s) in
    holds-tokens from.entity from.held.parameters.items own.1 (given-all net values k from.entity from.held is from.at from.held_at own.0)
