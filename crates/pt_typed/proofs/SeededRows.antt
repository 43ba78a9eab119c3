-- The typing of a net meets the rows of the actors that give tokens of their parameters.
use Rattle.std.proofs.Common.{◌≡◌, ◌⊎◌, inl, inr, ℕ, List, [], ◌∷◌, ◌++◌, map, Bool, true, false, Option, Some, None, refl, sym, ap, subst, ◌∙◌, slice_get}
use Rattle.std.specs.Prelude.{codes, pos, IfSome}
use Rattle.std.specs.List.{AllByRecursion}
use Rattle.std.proofs.lemmas.Option.{same_Some}
use Rattle.pt_document.specs.declared.job.Direction.{Direction}
use Rattle.pt_document.specs.Classes.{kind_of, class_row, classes}
use Rattle.pt_document.specs.Document.{PropertyTree}
use Rattle.pt_value.specs.Value.{Value, values_of}
use Rattle.pt_value.specs.Token.{value_of, token_of}
use Rattle.pt_value.specs.declared.token.Token.{Token}
use Rattle.pt_value.specs.declared.token.Token.TheVariants as token
use Rattle.pt_datatypes.specs.Datatype.{Datatype, Unknown, Int}
use Rattle.pt_datatypes.specs.Order.{IsBelow}
use Rattle.pt_datatypes.specs.Token.{type_of_value}
use Rattle.pt_datatypes.proofs.Order.{below-trans}
use Rattle.pt_net.specs.declared.net.Net.{Net}
use Rattle.pt_net.specs.declared.net.NetEntity.{NetEntity}
use Rattle.pt_net.specs.Net.{NetEntityTree, entity_view}
use Rattle.pt_scopes.specs.Given.{held_view}
use Rattle.pt_scopes.specs.declared.parameter_value.ParameterValue.{ParameterValue}
use Rattle.pt_scopes.specs.declared.values.Values.{Values}
use Rattle.pt_scopes.specs.Valued as valued
use Rattle.pt_typing.specs.declared.variable.Variable.TheVariants as variable
use Rattle.pt_typing.specs.Least.{Assignment, IsMet}
use Rattle.pt_inequalities.specs.Rows.{seedings, seed_of, joined_values}
use Rattle.pt_inequalities.specs.Frames.{frames_of, seen_types}
use Rattle.pt_inequalities.specs.Inequalities.{of_ports, of_parameters, of_standards}
use Rattle.pt_inequalities.specs.Typing.{IsTyping}
use Rattle.pt_start.specs.Started.{own_tokens, seen_tokens}
use Rattle.pt_firing.specs.Params.{value_under, channels_to, bool_or}
use Rattle.pt_flow_base.specs.declared.params.Params.{Params}
use Rattle.pt_flow_base.specs.declared.limit.Limit.{Limit}
use Rattle.pt_flow_streams.specs.declared.constant.Const as constants
use Rattle.pt_flow_streams.specs.declared.sequence.Sequence as sequences
use Rattle.pt_flow_streams.specs.declared.sample_delay.SampleDelay as delays
use Rattle.pt_lib_flow.specs.declared.flow_actor.FlowActor.{FlowActor}
use Rattle.pt_lib_flow.specs.declared.flow_actor.FlowActor.TheVariants as flow
use Rattle.pt_lib_flow.specs.declared.flow_actor.Class.{Class as FlowClass}
use Rattle.pt_lib_flow.specs.declared.flow_actor.Class.TheVariants as class
use Rattle.pt_flow_base.specs.Limit.{limit_in}
use Rattle.pt_lib_flow.specs.FlowActor as flow_actor
use Rattle.pt_flow_streams.specs.Const as constant
use Rattle.pt_flow_numbers.specs.AbsoluteValue as absolute_value
use Rattle.pt_flow_numbers.specs.Accumulator as accumulator
use Rattle.pt_flow_numbers.specs.AddSubtract as add_subtract
use Rattle.pt_flow_streams.specs.BooleanSelect as boolean_select
use Rattle.pt_flow_streams.specs.BooleanSwitch as boolean_switch
use Rattle.pt_flow_numbers.specs.Counter as counter
use Rattle.pt_flow_streams.specs.DownSample as down_sample
use Rattle.pt_lib_flow.specs.Expression as expression
use Rattle.pt_flow_numbers.specs.Extreme as extreme
use Rattle.pt_flow_numbers.specs.MultiplyDivide as multiply_divide
use Rattle.pt_flow_numbers.specs.Ramp as ramp
use Rattle.pt_flow_streams.specs.Repeat as repeat
use Rattle.pt_flow_numbers.specs.Scale as scale
use Rattle.pt_flow_streams.specs.UpSample as up_sample
use Rattle.pt_flow_numbers.specs.declared.extreme.Side.TheVariants.{Greatest, Least}
use Rattle.pt_inequalities.specs.declared.row.Seed.TheVariants as seed
use Rattle.pt_flow_streams.specs.SampleDelay as sample_delay
use Rattle.pt_flow_streams.specs.Sequence as sequence
use Rattle.pt_lib_time.specs.declared.time_actor.TimeActor.{TimeActor}
use Rattle.pt_lib_time.specs.declared.time_actor.TimeActor.TheVariants as time
use Rattle.pt_lib_time.specs.declared.time_actor.Class.{Class as TimeClass}
use Rattle.pt_lib_time.specs.declared.time_actor.Class.TheVariants as instants
use Rattle.pt_lib_time.specs.declared.non_strict_delay.NonStrictDelay as non_strict_delays
use Rattle.pt_lib_time.specs.declared.pre.Pre as pres
use Rattle.pt_lib_time.specs.NonStrictDelay as non_strict_delay
use Rattle.pt_lib_time.specs.Pre as pre
use Rattle.pt_lib_data.specs.DataActor as data_actor
use Rattle.pt_lib_time.specs.TimeActor as time_actor
use Rattle.pt_lib_timed.specs.declared.timed_actor.TimedActor.{TimedActor}
use Rattle.pt_lib_timed.specs.declared.timed_actor.Class.{Class as TimedClass}
use Rattle.pt_lib_timed.specs.TimedActor as timed_actor
use Rattle.pt_library.specs.declared.library_actor.LibraryActor.{LibraryActor}
use Rattle.pt_library.specs.declared.library_actor.LibraryActor.TheVariants.{Flow, Data, Time, Timed}
use Rattle.pt_library.specs.LibraryActor.{start}
use Rattle.pt_scopes.specs.Scopes.{is_composite_class}
use Rattle.pt_typed.specs.TokenTypes.{IsTokenOf}
use Rattle.pt_typed.specs.TypedActor.{MeetsRow}
use Rattle.pt_typed.specs.TypedFlow.{IsTypedFlow}
use Rattle.pt_typed.specs.TypedTime.{IsTypedTime}
use Rattle.pt_typed.specs.TypedTimed.{IsTypedTimed}
use Rattle.pt_typed.specs.NetTypes.{types_below}
use Rattle.pt_typed.specs.NetRows.{ends_from, channels_at, HasClassPorts, is_seeded_flow, is_seeded_time, is_seeded_timed, is_seeded_actor, HoldsTokens}
use Rattle.pt_typed.specs.RowLaw.{types_of_ports, SeededRowsAreMet}
use Rattle.pt_typed.proofs.PortFacts.{PortFacts, all-front, all-back, entity-met}
use Rattle.pt_typed.proofs.ClassPorts.{declares_in, outs_from, SinglesFrom, one-port}
use Rattle.pt_typed.proofs.FlowStarts as flows
use Rattle.pt_typed.proofs.FlowStarts.{mapped}
use Rattle.pt_typed.proofs.FlowClasses as flow_classes
use Rattle.pt_typed.proofs.TimeStarts as signals
use Rattle.pt_typed.proofs.TimeClasses as time_classes
use Rattle.pt_typed.proofs.TimedStarts as moments
use Rattle.pt_typed.proofs.TimedClasses as timed_classes
use Rattle.pt_typed.proofs.TimedRows.{seeded-fits}
use Rattle.pt_typed.proofs.RowsMet.{viewed, one-of-four, flow-in, its-places, its-outputs, its-facts, its-singles}
use Rattle.pt_typed.proofs.HeldRows.{parameters-hold-tokens}
use Rattle.pt_typed.proofs.SeedLaws.{value-met, not-given, no-tree, elements-below, tokens-of-values, const-seed, sequence-seed, delay-seed, non-strict-delay-seed, pre-seed, delay-standard}

-- ---- what starts

const-value : (o : Option Token) (l : Option Limit) (n : ℕ) (x : constants.Const) → constant.start_by o l n ≡ Some x → o ≡ Some x.value
const-value (Some v) (Some l) n x e = ap (λ (c : constants.Const). Some c.value) (same_Some _ x e)
const-value (Some v) None n x e = absurd (cc)
const-value None l n x e = absurd (cc)

sequence-values : (o : Option Token) (c : Option Bool) (n : ℕ) (x : sequences.Sequence) → sequence.start_by o c n ≡ Some x → o ≡ Some (token.Array x.values)
sequence-values (Some (token.Array (v ∷ vs))) (Some c) n x e = ap (λ (s : sequences.Sequence). Some (token.Array s.values)) (same_Some _ x e)
sequence-values (Some (token.Array (v ∷ vs))) None n x e = absurd (cc)
sequence-values (Some (token.Array [])) c n x e = absurd (cc)
sequence-values (Some (token.Int m)) c n x e = absurd (cc)
sequence-values (Some (token.Bool b)) c n x e = absurd (cc)
sequence-values (Some (token.Text t)) c n x e = absurd (cc)
sequence-values (Some (token.Record fs)) c n x e = absurd (cc)
sequence-values None c n x e = absurd (cc)

-- the first tokens are those of an array, or one 0
delay-tokens : (o : Option Token) (x : delays.SampleDelay) → sample_delay.start_by (sample_delay.initial_of o) ≡ Some x → ((vs : List Value) × (o ≡ Some (token.Array vs)) × (x.initial ≡ map token_of vs)) ⊎ ((o ≡ None) × (x.initial ≡ token.Int (pos 0) ∷ []))
delay-tokens None x e = inr (refl, sym (ap (λ (s : delays.SampleDelay). s.initial) (same_Some _ x e)))
delay-tokens (Some (token.Array vs)) x e = inl (vs, refl, sym (ap (λ (s : delays.SampleDelay). s.initial) (same_Some _ x e)))
delay-tokens (Some (token.Int m)) x e = absurd (cc)
delay-tokens (Some (token.Bool b)) x e = absurd (cc)
delay-tokens (Some (token.Text t)) x e = absurd (cc)
delay-tokens (Some (token.Record fs)) x e = absurd (cc)

-- ---- their classes declare no ports

const-declares : declares_in (kind_of (codes "Const")) ≡ None
unfolding kind_of class_row classes
const-declares = refl

sequence-declares : declares_in (kind_of (codes "Sequence")) ≡ None
unfolding kind_of class_row classes
sequence-declares = refl

delay-declares : declares_in (kind_of (codes "SampleDelay")) ≡ None
unfolding kind_of class_row classes
delay-declares = refl

append-none : {X : Type 0} (xs : List X) → xs ++ [] ≡ xs
append-none [] = refl
append-none (x ∷ xs) = ap (λ ys. x ∷ ys) (append-none xs)

module _ (net : Net) (values : Values) (typing : Assignment) (k : ℕ) (e : NetEntity) (at : slice_get net.entities.items k ≡ Some e) (plain : is_composite_class e.class ≡ false) (has : HasClassPorts net k e) (typed : IsTyping net values typing) (params : Params)
    (classed : params.class ≡ e.class) (v : valued.EntityView) (held : slice_get (map valued.entity_view values.entities.items) k ≡ Some v) (vs : List ParameterValue) (its-values : v.parameters ≡ map held_view vs) (holds : HoldsTokens (entity_view e).parameters vs) (values-are : params.values ≡ own_tokens (entity_view e).parameters vs) where
  abbrev types : ℕ → Datatype
  types n = typing.types (variable.Port k n)

  abbrev row : Datatype
  row = typing.types (variable.Row k)

  abbrev ps : List PropertyTree
  ps = (entity_view e).parameters

  behind-ports : AllByRecursion (IsMet typing) (of_parameters k e.class ps v.parameters ++ of_standards k e.class ps seedings)
  behind-ports = all-back (IsMet typing) (of_ports k (entity_view e) v (seen_types (frames_of net values) (entity_view e).within (entity_view e).parent) 0 (entity_view e).ports) (of_parameters k e.class ps v.parameters ++ of_standards k e.class ps seedings)
      (entity-met net values typing k (entity_view e) v typed (viewed entity_view net.entities.items k e at) held)

  parameters-met : (name : List ℕ) → e.class ≡ name → AllByRecursion (IsMet typing) (of_parameters k name ps (map held_view vs))
  parameters-met name is = subst (λ c. AllByRecursion (IsMet typing) (of_parameters k c ps (map held_view vs))) is (subst (λ hs. AllByRecursion (IsMet typing) (of_parameters k e.class ps hs)) its-values (all-front (IsMet typing) (of_parameters k e.class ps v.parameters) (of_standards k e.class ps seedings) behind-ports))

  standards-met : (name : List ℕ) → e.class ≡ name → AllByRecursion (IsMet typing) (of_standards k name ps seedings)
  standards-met name is = subst (λ c. AllByRecursion (IsMet typing) (of_standards k c ps seedings)) is (all-back (IsMet typing) (of_parameters k e.class ps v.parameters) (of_standards k e.class ps seedings) behind-ports)

  own-value : (name : List ℕ) (o : Option Token) → value_under name params.values ≡ o → value_under name (own_tokens ps vs) ≡ o
  own-value name o h = ap (value_under name) (sym values-are) ∙ h

  -- it meets its row where its class asks this of its outputs' types
  as-class : (c : FlowClass) (a : FlowActor) → flow_actor.class_of params.class ≡ Some c → declares_in (kind_of (flows.name_of c)) ≡ None →
      ((e.class ≡ flows.name_of c) → PortFacts row types 0 (flow_classes.types_of c) → IsTypedFlow (map types (ends_from (channels_at net k) 0 (map (λ (h : List ℕ × Direction). h.1) (flow_classes.heads_of c)))) (map types (outs_from 0 (map (λ (h : List ℕ × Direction). h.1) (flow_classes.heads_of c)))) a) →
      MeetsRow (types_below net typing k []) (Flow a)
  as-class c a is declares h =
      let name = flows.name_of c in
      let named = flows.class-named params.class c is in
      let heads = flow_classes.heads_of c in
      let places = its-places net values typing k e at plain has typed params classed v held name named heads (flow_classes.heads-are c) declares in
      let outputs = its-outputs net values typing k e at plain has typed params classed v held name named heads (flow_classes.heads-are c) declares in
      let facts = its-facts net values typing k e at plain has typed params classed v held name named heads (flow_classes.heads-are c) declares in
      let asked = h (sym classed ∙ named) (subst (λ ts. PortFacts row types 0 ts) (flow_classes.types-are c) facts) in
      subst (λ qs. IsTypedFlow qs (types_below net typing k []).outputs a) (sym places) (subst (λ us. IsTypedFlow (map types (ends_from (channels_at net k) 0 (map (λ (h : List ℕ × Direction). h.1) heads))) us a) (sym outputs) asked)

  seeded-meets : (c : FlowClass) (a : FlowActor) → flow_actor.class_of params.class ≡ Some c → flow_actor.start_as c params ≡ Some a → is_seeded_flow a ≡ true → MeetsRow (types_below net typing k []) (Flow a)
  seeded-meets class.Const a is started s =
      let w = mapped flow.Const (constant.start params) a started in
      let given = own-value (codes "value") (Some w.0.value) (const-value (value_under (codes "value") params.values) (limit_in params.values) (channels_to (codes "trigger") params.ports) w.0 w.1) in
      subst (λ b. MeetsRow (types_below net typing k []) (Flow b)) w.2
      (as-class class.Const (flow.Const w.0) is const-declares (λ named f.
      below-trans (type_of_value (value_of w.0.value)) row (types 1) (value-met typing k (codes "Const") (codes "value") seed.Whole ps vs w.0.value const-seed holds.counted holds.held (parameters-met (codes "Const") named) given) f.1.0.0))
  seeded-meets class.Sequence a is started s =
      let w = mapped flow.Sequence (sequence.start params) a started in
      let given = own-value (codes "values") (Some (token.Array w.0.values)) (sequence-values (value_under (codes "values") params.values) (bool_or (codes "repeat") false params.values) (channels_to (codes "trigger") params.ports) w.0 w.1) in
      subst (λ b. MeetsRow (types_below net typing k []) (Flow b)) w.2
      (as-class class.Sequence (flow.Sequence w.0) is sequence-declares (λ named f.
      elements-below Unknown (types 1) w.0.values (below-trans (joined_values Unknown (values_of w.0.values)) row (types 1) (value-met typing k (codes "Sequence") (codes "values") seed.Elements ps vs (token.Array w.0.values) sequence-seed holds.counted holds.held (parameters-met (codes "Sequence") named) given) f.1.0.0)))
  seeded-meets class.SampleDelay a is started s =
      let w = mapped flow.SampleDelay (sample_delay.start params) a started in
      subst (λ b. MeetsRow (types_below net typing k []) (Flow b)) w.2
      (as-class class.SampleDelay (flow.SampleDelay w.0) is delay-declares (λ named f. (
        one-port types (channels_at net k 0) 0 (types 1) (below-trans (types 0) row (types 1) f.0.1 f.1.0.0),
        (
          elim (delay-tokens (value_under (codes "initialOutputs") params.values) w.0 w.1) as (λ x. AllByRecursion (IsTokenOf (types 1)) w.0.initial) [
            | inl g ↦ subst (λ ts. AllByRecursion (IsTokenOf (types 1)) ts) (sym g.2) (tokens-of-values (types 1) g.0 (elements-below Unknown (types 1) g.0 (below-trans (joined_values Unknown (values_of g.0)) row (types 1)
                (value-met typing k (codes "SampleDelay") (codes "initialOutputs") seed.Elements ps vs (token.Array g.0) delay-seed holds.counted holds.held (parameters-met (codes "SampleDelay") named) (own-value (codes "initialOutputs") (Some (token.Array g.0)) g.1)) f.1.0.0)))
            | inr g ↦ subst (λ ts. AllByRecursion (IsTokenOf (types 1)) ts) (sym g.1) (below-trans Int row (types 1) (delay-standard typing k ps (not-given (codes "initialOutputs") ps vs holds.counted holds.held (own-value (codes "initialOutputs") None g.0)) (standards-met (codes "SampleDelay") named)) f.1.0.0, tt)
          ],
          tt,
        ),
      )))
  seeded-meets class.AbsoluteValue a is started s = let w = mapped flow.AbsoluteValue (absolute_value.start params) a started in let no : false ≡ true = ap is_seeded_flow w.2 ∙ s in absurd (cc)
  seeded-meets class.Accumulator a is started s = let w = mapped flow.Accumulator (accumulator.start params) a started in let no : false ≡ true = ap is_seeded_flow w.2 ∙ s in absurd (cc)
  seeded-meets class.AddSubtract a is started s = let w = mapped flow.AddSubtract (add_subtract.start params) a started in let no : false ≡ true = ap is_seeded_flow w.2 ∙ s in absurd (cc)
  seeded-meets class.BooleanSelect a is started s = let w = mapped flow.BooleanSelect (boolean_select.start params) a started in let no : false ≡ true = ap is_seeded_flow w.2 ∙ s in absurd (cc)
  seeded-meets class.BooleanSwitch a is started s = let w = mapped flow.BooleanSwitch (boolean_switch.start params) a started in let no : false ≡ true = ap is_seeded_flow w.2 ∙ s in absurd (cc)
  seeded-meets class.Counter a is started s = let w = mapped flow.Counter (counter.start params) a started in let no : false ≡ true = ap is_seeded_flow w.2 ∙ s in absurd (cc)
  seeded-meets class.DownSample a is started s = let w = mapped flow.DownSample (down_sample.start params) a started in let no : false ≡ true = ap is_seeded_flow w.2 ∙ s in absurd (cc)
  seeded-meets class.Expression a is started s = let w = mapped flow.Expression (expression.start params) a started in let no : false ≡ true = ap is_seeded_flow w.2 ∙ s in absurd (cc)
  seeded-meets class.Maximum a is started s = let w = mapped flow.Extreme (extreme.start Greatest params) a started in let no : false ≡ true = ap is_seeded_flow w.2 ∙ s in absurd (cc)
  seeded-meets class.Minimum a is started s = let w = mapped flow.Extreme (extreme.start Least params) a started in let no : false ≡ true = ap is_seeded_flow w.2 ∙ s in absurd (cc)
  seeded-meets class.MultiplyDivide a is started s = let w = mapped flow.MultiplyDivide (multiply_divide.start params) a started in let no : false ≡ true = ap is_seeded_flow w.2 ∙ s in absurd (cc)
  seeded-meets class.Ramp a is started s = let w = mapped flow.Ramp (ramp.start params) a started in let no : false ≡ true = ap is_seeded_flow w.2 ∙ s in absurd (cc)
  seeded-meets class.Repeat a is started s = let w = mapped flow.Repeat (repeat.start params) a started in let no : false ≡ true = ap is_seeded_flow w.2 ∙ s in absurd (cc)
  seeded-meets class.Scale a is started s = let w = mapped flow.Scale (scale.start params) a started in let no : false ≡ true = ap is_seeded_flow w.2 ∙ s in absurd (cc)
  seeded-meets class.UpSample a is started s = let w = mapped flow.UpSample (up_sample.start params) a started in let no : false ≡ true = ap is_seeded_flow w.2 ∙ s in absurd (cc)

  -- the same of a class of synchronous models
  as-time : (c : TimeClass) (a : TimeActor) → time_actor.class_of params.class ≡ Some c →
      ((e.class ≡ signals.name_of c) → PortFacts row types 0 (time_classes.types_of c) → IsTypedTime (map types (ends_from (channels_at net k) 0 (map (λ (h : List ℕ × Direction). h.1) (time_classes.heads_of c)))) (map types (outs_from 0 (map (λ (h : List ℕ × Direction). h.1) (time_classes.heads_of c)))) a) →
      MeetsRow (types_below net typing k []) (Time a)
  as-time c a is h =
      let name = signals.name_of c in
      let named = signals.class-named params.class c is in
      let heads = time_classes.heads_of c in
      let declares = time_classes.declares-none c in
      let places = its-places net values typing k e at plain has typed params classed v held name named heads (time_classes.heads-are c) declares in
      let outputs = its-outputs net values typing k e at plain has typed params classed v held name named heads (time_classes.heads-are c) declares in
      let facts = its-facts net values typing k e at plain has typed params classed v held name named heads (time_classes.heads-are c) declares in
      let asked = h (sym classed ∙ named) (subst (λ ts. PortFacts row types 0 ts) (time_classes.types-are c) facts) in
      subst (λ qs. IsTypedTime qs (types_below net typing k []).outputs a) (sym places) (subst (λ us. IsTypedTime (map types (ends_from (channels_at net k) 0 (map (λ (h : List ℕ × Direction). h.1) heads))) us a) (sym outputs) asked)

  -- what is kept at first is the parameter, where it is given
  kept-of : (name : List ℕ) (u : Datatype) → seed_of name (codes "initialValue") ≡ Some seed.Whole → e.class ≡ name → IsBelow row u → IfSome (value_under (codes "initialValue") params.values) (IsTokenOf u)
  kept-of name u seeds named below = by_token (value_under (codes "initialValue") params.values) refl
    where
      by_token : (o : Option Token) → value_under (codes "initialValue") params.values ≡ o → IfSome o (IsTokenOf u)
      by_token None h = tt
      by_token (Some t) h = below-trans (type_of_value (value_of t)) row u (value-met typing k name (codes "initialValue") seed.Whole ps vs t seeds holds.counted holds.held (parameters-met name named) (own-value (codes "initialValue") (Some t) h)) below

  delay-meets : (a : TimeActor) → time_actor.class_of params.class ≡ Some instants.NonStrictDelay → time_actor.start_as instants.NonStrictDelay params ≡ Some a → MeetsRow (types_below net typing k []) (Time a)
  delay-meets a is started =
      let w = mapped time.NonStrictDelay (non_strict_delay.start params) a started in
      let kept : value_under (codes "initialValue") params.values ≡ w.0.kept = ap (λ (x : non_strict_delays.NonStrictDelay). x.kept) (same_Some _ w.0 w.1) in
      subst (λ b. MeetsRow (types_below net typing k []) (Time b)) w.2
      (as-time instants.NonStrictDelay (time.NonStrictDelay w.0) is (λ named f. (
        one-port types (channels_at net k 0) 0 (types 1) (below-trans (types 0) row (types 1) f.0.1 f.1.0.0),
        subst (λ o. IfSome o (IsTokenOf (types 1))) kept (kept-of (codes "NonStrictDelay") (types 1) non-strict-delay-seed named f.1.0.0),
      )))

  pre-meets : (a : TimeActor) → time_actor.class_of params.class ≡ Some instants.Pre → time_actor.start_as instants.Pre params ≡ Some a → MeetsRow (types_below net typing k []) (Time a)
  pre-meets a is started =
      let w = mapped time.Pre (pre.start params) a started in
      let kept : value_under (codes "initialValue") params.values ≡ w.0.kept = ap (λ (x : pres.Pre). x.kept) (same_Some _ w.0 w.1) in
      subst (λ b. MeetsRow (types_below net typing k []) (Time b)) w.2
      (as-time instants.Pre (time.Pre w.0) is (λ named f. (
        one-port types (channels_at net k 0) 0 (types 1) (below-trans (types 0) row (types 1) f.0.1 f.1.0.0),
        subst (λ o. IfSome o (IsTokenOf (types 1))) kept (kept-of (codes "Pre") (types 1) pre-seed named f.1.0.0),
      )))

  abbrev MeetsAs : TimeActor → TimeClass → Type 0
  MeetsAs a c = time_actor.class_of params.class ≡ Some c → time_actor.start_as c params ≡ Some a → MeetsRow (types_below net typing k []) (Time a)

  time-meets : (c : TimeClass) (a : TimeActor) → time_actor.class_of params.class ≡ Some c → time_actor.start_as c params ≡ Some a → is_seeded_time a ≡ true → MeetsRow (types_below net typing k []) (Time a)
  time-meets c a is started s = signals.seeded-class (MeetsAs a) c params a (delay-meets a) (pre-meets a) started s is started

  timed-meets : (c : TimedClass) (a : TimedActor) → timed_actor.class_of params.class ≡ Some c → timed_actor.start_as c params ≡ Some a → is_seeded_timed a ≡ true → MeetsRow (types_below net typing k []) (Timed a)
  timed-meets c a is started s =
      let name = moments.name_of c in
      let named = moments.class-named params.class c is in
      let its = sym classed ∙ named in
      let heads = timed_classes.heads_of c in
      let declares = timed_classes.declares-none c in
      let places = its-places net values typing k e at plain has typed params classed v held name named heads (timed_classes.heads-are c) declares in
      let outputs = its-outputs net values typing k e at plain has typed params classed v held name named heads (timed_classes.heads-are c) declares in
      let facts = subst (λ ts. PortFacts row types 0 ts) (timed_classes.types-are c) (its-facts net values typing k e at plain has typed params classed v held name named heads (timed_classes.heads-are c) declares) in
      let singles = subst (λ ms. SinglesFrom (channels_at net k) 0 ms) (timed_classes.marks-are c) (its-singles net values typing k e at plain has typed params classed v held name named heads (timed_classes.heads-are c) declares) in
      let asked = seeded-fits typing k params ps vs holds values-are (channels_at net k) c a s started (parameters-met name its, standards-met name its) facts singles in
      subst (λ qs. IsTypedTimed qs (types_below net typing k []).outputs a) (sym places) (subst (λ us. IsTypedTimed (map types (ends_from (channels_at net k) 0 (map (λ (h : List ℕ × Direction). h.1) heads))) us a) (sym outputs) asked)

  all-meet : (a : LibraryActor) → start params ≡ Some a → is_seeded_actor a ≡ true → MeetsRow (types_below net typing k []) a
  all-meet a started s = elim (one-of-four Flow Data Time Timed (flow_actor.start params) (data_actor.start params.class params.values params.ports) (time_actor.start params) (timed_actor.start params) a started) [
    | inl w ↦ (let c = flow-in (flow_actor.class_of params.class) params w.0 w.1 in subst (MeetsRow (types_below net typing k [])) w.2 (seeded-meets c.0 w.0 c.1 c.2 (ap is_seeded_actor w.2 ∙ s)))
    | inr (inl w) ↦ absurd (let no : false ≡ true = ap is_seeded_actor w.2 ∙ s in cc)
    | inr (inr (inl w)) ↦ (let c = signals.time-in (time_actor.class_of params.class) params w.0 w.1 in subst (MeetsRow (types_below net typing k [])) w.2 (time-meets c.0 w.0 c.1 c.2 (ap is_seeded_actor w.2 ∙ s)))
    | inr (inr (inr w)) ↦ (let c = moments.timed-in (timed_actor.class_of params.class) params w.0 w.1 in subst (MeetsRow (types_below net typing k [])) w.2 (timed-meets c.0 w.0 c.1 c.2 (ap is_seeded_actor w.2 ∙ s)))
  ]

pub seeded-rows-met : SeededRowsAreMet
seeded-rows-met net values typing k e a at plain has valued-so typed started s =
    let from = started.started_from in
    let holds = parameters-hold-tokens net values (types_of_ports typing) k a valued-so started s in
    let params = started.params in
    let view : entity_view e ≡ from.entity = same_Some (entity_view e) from.entity (sym (viewed entity_view net.entities.items k e at) ∙ from.at) in
    let vs = from.held.parameters.items in
    let holds-here : HoldsTokens (entity_view e).parameters vs = subst (λ (d : NetEntityTree). HoldsTokens d.parameters vs) (sym view) holds in
    let values-are : params.values ≡ own_tokens (entity_view e).parameters vs =
    from.from.values_are ∙ ap (λ o. own_tokens from.entity.parameters vs ++ seen_tokens from.seen o) (no-tree vs holds.held) ∙ append-none (own_tokens from.entity.parameters vs) ∙ ap (λ (d : NetEntityTree). own_tokens d.parameters vs) (sym view) in
    all-meet net values typing k e at plain has typed params (from.from.class_is ∙ ap (λ (d : NetEntityTree). d.class) (sym view)) (valued.entity_view from.held) (viewed valued.entity_view values.entities.items k from.held from.held_at) vs refl holds-here values-are a started.is s
