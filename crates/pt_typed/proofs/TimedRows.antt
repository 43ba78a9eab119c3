-- The typing of a net meets the rows of the timed actors that give tokens of their parameters: the values of a DiscreteClock, the value of a SingleEvent, and what a Sampler and a Register keep at first.
use Rattle.std.proofs.Common.{◌≡◌, ◌⊎◌, inl, inr, ℕ, List, [], ◌∷◌, ◌++◌, map, replicate, Bool, true, false, Option, Some, None, ℤ, pos, nat_eq, length, refl, sym, ap, subst, ◌∙◌, if◌then◌else◌}
use Rattle.std.specs.Prelude.{codes, IfSome, unsigned_abs}
use Rattle.std.specs.Option.{option_or}
use Rattle.std.specs.List.{AllByRecursion}
use Rattle.std.proofs.lemmas.Option.{same_Some}
use Rattle.pt_document.specs.declared.job.Direction.{Direction}
use Rattle.pt_document.specs.Document.{PropertyTree}
use Rattle.pt_value.specs.Value as val
use Rattle.pt_value.specs.Value.{Value, values_of}
use Rattle.pt_value.specs.Token.{value_of}
use Rattle.pt_value.specs.declared.token.Token.{Token}
use Rattle.pt_value.specs.declared.token.Token.TheVariants as token
use Rattle.pt_datatypes.specs.Datatype.{Datatype, Unknown, Int}
use Rattle.pt_datatypes.specs.Order.{IsBelow}
use Rattle.pt_datatypes.specs.Token.{type_of_value}
use Rattle.pt_datatypes.proofs.Order.{below-trans}
use Rattle.pt_firing.specs.Params.{value_under, int_within}
use Rattle.pt_scopes.specs.Given.{held_view}
use Rattle.pt_scopes.specs.declared.parameter_value.ParameterValue.{ParameterValue}
use Rattle.pt_typing.specs.declared.variable.Variable.TheVariants as variable
use Rattle.pt_typing.specs.Least.{Assignment, IsMet}
use Rattle.pt_inequalities.specs.declared.row.Seed.TheVariants as seed
use Rattle.pt_inequalities.specs.Rows.{seedings, seed_of, joined_values}
use Rattle.pt_inequalities.specs.Inequalities.{of_parameters, of_standards}
use Rattle.pt_start.specs.Started.{own_tokens}
use Rattle.pt_flow_base.specs.declared.params.Params.{Params}
use Rattle.pt_lib_timed.specs.declared.timed_actor.Class.{Class}
use Rattle.pt_lib_timed.specs.declared.timed_actor.Class.TheVariants as class
use Rattle.pt_lib_timed.specs.declared.timed_actor.TimedActor.{TimedActor}
use Rattle.pt_lib_timed.specs.declared.timed_actor.TimedActor.TheVariants as timed
use Rattle.pt_lib_timed.specs.declared.discrete_clock.DiscreteClock as clocks
use Rattle.pt_lib_timed.specs.declared.register.Register as registers
use Rattle.pt_lib_timed.specs.declared.sampler.Sampler as samplers
use Rattle.pt_lib_timed.specs.declared.single_event.SingleEvent as events
use Rattle.pt_lib_timed.specs.Signal.{last_time}
use Rattle.pt_lib_timed.specs.DiscreteClock as discrete_clock
use Rattle.pt_lib_timed.specs.Register as register
use Rattle.pt_lib_timed.specs.Sampler as sampler
use Rattle.pt_lib_timed.specs.SingleEvent as single_event
use Rattle.pt_lib_timed.specs.TimedActor.{start_as}
use Rattle.pt_typed.specs.TokenTypes.{IsTokenOf}
use Rattle.pt_typed.specs.TypedFlow.{IsValueOf}
use Rattle.pt_typed.specs.TypedTimed.{IsEventOf, IsTypedTimed}
use Rattle.pt_typed.specs.NetRows.{ends_from, is_seeded_timed, HoldsTokens}
use Rattle.pt_typed.proofs.PortFacts.{PortFacts}
use Rattle.pt_typed.proofs.ClassPorts.{outs_from, SinglesFrom, first-port}
use Rattle.pt_typed.proofs.FlowStarts.{mapped}
use Rattle.pt_typed.proofs.TimedStarts.{name_of, seeded-class}
use Rattle.pt_typed.proofs.TimedClasses.{heads_of, marks_of, types_of}
use Rattle.pt_typed.proofs.SeedLaws.{value-met, not-given, elements-below, clock-seed, event-seed, sampler-seed, register-seed, clock-standard, event-standard}

-- ---- what starts

-- the values of a clock
clock-values : (p : Option ℤ) (o q : Option (List Value)) (x : clocks.DiscreteClock) → discrete_clock.start_of p o q ≡ Some x → q ≡ Some x.values
clock-values None o q x e = absurd (cc)
clock-values (Some p) None q x e = absurd (cc)
clock-values (Some p) (Some os) None x e = absurd (cc)
clock-values (Some p) (Some os) (Some vs) x e = by_test (nat_eq (length os) (length vs)) e
  where
    by_test : (b : Bool) → (if b then Some (record { period = unsigned_abs p; offsets = os; values = vs; round = 0; index = 0; places = 0 }) else None) ≡ Some x → Some vs ≡ Some x.values
    by_test true h = ap (λ (c : clocks.DiscreteClock). Some c.values) (same_Some _ x h)
    by_test false h = absurd (cc)

-- they are those of an array, or the one that stands for it
array-given : (n : ℤ) (o : Option Token) (vs : List Value) → discrete_clock.array_of n o ≡ Some vs → (o ≡ Some (token.Array vs)) ⊎ ((o ≡ None) × (val.Int n ∷ [] ≡ vs))
array-given n None vs e = inr (refl, same_Some (val.Int n ∷ []) vs e)
array-given n (Some (token.Array ws)) vs e = inl (ap (λ us. Some (token.Array us)) (same_Some ws vs e))
array-given n (Some (token.Int m)) vs e = absurd (cc)
array-given n (Some (token.Bool b)) vs e = absurd (cc)
array-given n (Some (token.Text t)) vs e = absurd (cc)
array-given n (Some (token.Record fs)) vs e = absurd (cc)

-- the token of an event
event-token : (o : Option Token) (t : Option ℤ) (x : events.SingleEvent) → single_event.start_at o t ≡ Some x → option_or o (Some (token.Int (pos 1))) ≡ x.event
event-token o None x e = absurd (cc)
event-token o (Some t) x e = ap (λ (s : events.SingleEvent). s.event) (same_Some _ x e)

-- ---- what passes

module _ (typing : Assignment) (k : ℕ) (params : Params) (ps : List PropertyTree) (vs : List ParameterValue) (holds : HoldsTokens ps vs) (values-are : params.values ≡ own_tokens ps vs) where
  abbrev types : ℕ → Datatype
  types n = typing.types (variable.Port k n)

  abbrev row : Datatype
  row = typing.types (variable.Row k)

  -- the inequalities of its parameters, and of what stands for those that aren't given
  abbrev AreMet : List ℕ → Type 0
  AreMet name = AllByRecursion (IsMet typing) (of_parameters k name ps (map held_view vs)) × AllByRecursion (IsMet typing) (of_standards k name ps seedings)

  own-value : (name : List ℕ) (o : Option Token) → value_under name params.values ≡ o → value_under name (own_tokens ps vs) ≡ o
  own-value name o h = ap (value_under name) (sym values-are) ∙ h

  -- the token of a parameter, where it is given
  token-under : (class name : List ℕ) (u : Datatype) → seed_of class name ≡ Some seed.Whole → AreMet class → IsBelow row u → IfSome (value_under name params.values) (IsTokenOf u)
  token-under class name u seeds met below = by_token (value_under name params.values) refl
    where
      by_token : (o : Option Token) → value_under name params.values ≡ o → IfSome o (IsTokenOf u)
      by_token None h = tt
      by_token (Some t) h = below-trans (type_of_value (value_of t)) row u (value-met typing k class name seed.Whole ps vs t seeds holds.counted holds.held met.0 (own-value name (Some t) h)) below

  clock-met : (us : List Value) → discrete_clock.array_of (pos 1) (value_under (codes "values") params.values) ≡ Some us → AreMet (codes "DiscreteClock") → IsBelow row (types 0) → AllByRecursion (IsValueOf (types 0)) us
  clock-met us e met below = elim (array-given (pos 1) (value_under (codes "values") params.values) us e) [
    | inl g ↦ elements-below Unknown (types 0) us (below-trans (joined_values Unknown (values_of us)) row (types 0) (value-met typing k (codes "DiscreteClock") (codes "values") seed.Elements ps vs (token.Array us) clock-seed holds.counted holds.held met.0 (own-value (codes "values") (Some (token.Array us)) g)) below)
    | inr g ↦ subst (λ ws. AllByRecursion (IsValueOf (types 0)) ws) g.1 (below-trans Int row (types 0) (clock-standard typing k ps (not-given (codes "values") ps vs holds.counted holds.held (own-value (codes "values") None g.0)) met.1) below, tt)
  ]

  event-met : AreMet (codes "SingleEvent") → IsBelow row (types 0) → IfSome (option_or (value_under (codes "value") params.values) (Some (token.Int (pos 1)))) (IsTokenOf (types 0))
  event-met met below = by_token (value_under (codes "value") params.values) refl (token-under (codes "SingleEvent") (codes "value") (types 0) event-seed met below)
    where
      by_token : (o : Option Token) → value_under (codes "value") params.values ≡ o → IfSome o (IsTokenOf (types 0)) → IfSome (option_or o (Some (token.Int (pos 1)))) (IsTokenOf (types 0))
      by_token None h is = below-trans Int row (types 0) (event-standard typing k ps (not-given (codes "value") ps vs holds.counted holds.held (own-value (codes "value") None h)) met.1) below
      by_token (Some t) h is = is

  -- ---- the classes

  -- what is known of an entity of a class is what the row of its actor asks
  abbrev Fits : (ℕ → ℕ) → TimedActor → Class → Type 0
  Fits counts a c =
      start_as c params ≡ Some a → AreMet (name_of c) → PortFacts row types 0 (types_of c) → SinglesFrom counts 0 (marks_of c) →
      IsTypedTimed (map types (ends_from counts 0 (map (λ (h : List ℕ × Direction). h.1) (heads_of c)))) (map types (outs_from 0 (map (λ (h : List ℕ × Direction). h.1) (heads_of c)))) a

  clock-fits : (counts : ℕ → ℕ) (a : TimedActor) → Fits counts a class.DiscreteClock
  clock-fits counts a started met f s =
      let w = mapped timed.DiscreteClock (discrete_clock.start params) a started in
      let given = clock-values (discrete_clock.period_given params.values) (discrete_clock.array_of (pos 0) (value_under (codes "offsets") params.values)) (discrete_clock.array_of (pos 1) (value_under (codes "values") params.values)) w.0 w.1 in
      subst (λ b. IsTypedTimed [] (types 0 ∷ []) b) w.2 (clock-met w.0.values given met f.0.0)

  event-fits : (counts : ℕ → ℕ) (a : TimedActor) → Fits counts a class.SingleEvent
  event-fits counts a started met f s =
      let w = mapped timed.SingleEvent (single_event.start params) a started in
      let given = event-token (value_under (codes "value") params.values) (int_within (codes "time") (pos 0) (pos 0) last_time params.values) w.0 w.1 in
      subst (λ b. IsTypedTimed [] (types 0 ∷ []) b) w.2 (subst (λ o. IfSome o (IsTokenOf (types 0))) given (event-met met f.0.0))

  sampler-fits : (counts : ℕ → ℕ) (a : TimedActor) → Fits counts a class.Sampler
  sampler-fits counts a started met f s =
      let w = mapped timed.Sampler (sampler.start params) a started in
      let kept : value_under (codes "initialValue") params.values ≡ w.0.kept = ap (λ (x : samplers.Sampler). x.kept) (same_Some _ w.0 w.1) in
      subst (λ b. IsTypedTimed (map types (replicate (counts 0) 0 ++ (replicate (counts 1) 1 ++ []))) (types 2 ∷ []) b) w.2 (
        first-port types (counts 0) 0 (replicate (counts 1) 1 ++ []) (types 2) s.0 (below-trans (types 0) row (types 2) f.0.1 f.1.1.0.0),
        subst (λ o. IfSome o (IsTokenOf (types 2))) kept (token-under (codes "Sampler") (codes "initialValue") (types 2) sampler-seed met f.1.1.0.0),
      )

  register-fits : (counts : ℕ → ℕ) (a : TimedActor) → Fits counts a class.Register
  register-fits counts a started met f s =
      let w = mapped timed.Register (register.start params) a started in
      let first : value_under (codes "initialValue") params.values ≡ w.0.before = ap (λ (x : registers.Register). x.before) (same_Some _ w.0 w.1) in
      let latest : None ≡ w.0.latest = ap (λ (x : registers.Register). x.latest) (same_Some _ w.0 w.1) in
      subst (λ b. IsTypedTimed (map types (replicate (counts 0) 0 ++ (replicate (counts 1) 1 ++ []))) (types 2 ∷ []) b) w.2 (
        first-port types (counts 0) 0 (replicate (counts 1) 1 ++ []) (types 2) s.0 (below-trans (types 0) row (types 2) f.0.1 f.1.1.0.0),
        subst (λ o. IfSome o (IsTokenOf (types 2))) first (token-under (codes "Register") (codes "initialValue") (types 2) register-seed met f.1.1.0.0),
        subst (λ o. IfSome o (IsEventOf (types 2))) latest tt,
      )

  pub seeded-fits : (counts : ℕ → ℕ) (c : Class) (a : TimedActor) → is_seeded_timed a ≡ true → Fits counts a c
  seeded-fits counts c a seeded started met f s = seeded-class (Fits counts a) c params a (clock-fits counts a) (register-fits counts a) (sampler-fits counts a) (event-fits counts a) started seeded started met f s
