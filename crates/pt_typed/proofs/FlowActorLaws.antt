-- Each flow actor gives tokens of the types of its outputs, where its inputs are of those of its places, and its state is such as its row asks again.
use Rattle.std.proofs.Common.{◌≡◌, ℕ, zero, suc, List, [], ◌∷◌, replicate, drop, Bool, true, false, Option, Some, None, Result, Ok, Err, ℤ, pos, nat_abs, ◌+ℤ◌, ◌*ℤ◌, refl, subst, slice_get, if◌then◌else◌}
use Rattle.std.specs.Prelude.{option_map, bytes_eq, IfSome}
use Rattle.std.specs.List.{AllByRecursion}
use Rattle.pt_meaning.specs.Basics.{Tag, Streams, at}
use Rattle.pt_meaning.specs.Streams.{get}
use Rattle.pt_meaning.specs.Node.{Answer, Gives, Fails}
use Rattle.pt_value.specs.Value.{Value}
use Rattle.pt_value.specs.Token.{value_of, token_of}
use Rattle.pt_value.specs.declared.token.Token.{Token}
use Rattle.pt_value.specs.declared.token.Token.TheVariants as token
use Rattle.pt_datatypes.specs.Datatype.{Datatype, Int, General}
use Rattle.pt_datatypes.specs.Order.{IsBelow}
use Rattle.pt_datatypes.specs.Token.{type_of_value}
use Rattle.pt_datatypes.proofs.Fields.{and_left, and_right}
use Rattle.pt_datatypes.proofs.Order.{below-trans, below-refl, above-General}
use Rattle.pt_language.specs.declared.eval_fault.EvalFault.TheVariants as fault
use Rattle.pt_language.specs.Outcome as outcome
use Rattle.pt_language.specs.Outcome.{Outcome}
use Rattle.pt_language.specs.Scope.{Scope}
use Rattle.pt_language.specs.Typing.{Typing, Has, Clash, or_general}
use Rattle.pt_language.specs.Types.{Types}
use Rattle.pt_language.specs.TreeType.{tree_type, are_bound}
use Rattle.pt_language.specs.Laws.{IsHeld, Keeps, IsOfType}
use Rattle.pt_language.specs.Rule.{type_or_general}
use Rattle.pt_language.proofs.TypeSound.{typed-sound}
use Rattle.pt_firing.specs.Params.{value_under}
use Rattle.pt_firing.specs.RunFault.{code_of}
use Rattle.pt_firing.specs.declared.fault.RunFault.{RunFault}
use Rattle.pt_firing.specs.declared.fault.RunFault.TheVariants.{Overflow}
use Rattle.pt_lib_flow.specs.declared.flow_actor.FlowActor.{FlowActor}
use Rattle.pt_lib_flow.specs.declared.flow_actor.FlowActor.TheVariants.{AbsoluteValue, Accumulator, AddSubtract, BooleanSelect, BooleanSwitch, Const, Counter, DownSample, Expression, Extreme, MultiplyDivide, Ramp, Repeat, SampleDelay, Scale, Sequence, UpSample}
use Rattle.pt_flow_numbers.specs.declared.accumulator.Accumulator as accumulators
use Rattle.pt_flow_streams.specs.declared.boolean_select.Turn.{Turn}
use Rattle.pt_flow_streams.specs.declared.boolean_select.Turn.TheVariants as turns
use Rattle.pt_flow_streams.specs.declared.boolean_switch.BooleanSwitch as switches
use Rattle.pt_flow_numbers.specs.declared.multiply_divide.MultiplyDivide as ratios
use Rattle.pt_flow_streams.specs.declared.sequence.Sequence as sequences
use Rattle.pt_flow_base.specs.Row.{gives, rests, exactly, fits_i64, on_present, token_at, number_at, truth_at, sum_of}
use Rattle.pt_flow_base.specs.Limit.{is_over, after_one, is_called, source}
use Rattle.pt_flow_base.specs.Rates.{repeated}
use Rattle.pt_formula.specs.Formula.{Formula, names, parameters, with_name, with_inputs, parameter_types, with_type, with_types, types_of, is_of, are_of}
use Rattle.pt_lib_flow.specs.FlowActor.{held_as, step, first}
use Rattle.pt_flow_numbers.specs.AbsoluteValue as absolute_value
use Rattle.pt_flow_numbers.specs.Accumulator as accumulator
use Rattle.pt_flow_numbers.specs.AddSubtract as add_subtract
use Rattle.pt_flow_streams.specs.BooleanSelect as boolean_select
use Rattle.pt_flow_streams.specs.BooleanSwitch as boolean_switch
use Rattle.pt_flow_streams.specs.Const as constant
use Rattle.pt_flow_numbers.specs.Counter as counter
use Rattle.pt_flow_streams.specs.DownSample as down_sample
use Rattle.pt_lib_flow.specs.Expression as expression
use Rattle.pt_flow_numbers.specs.Extreme as extreme
use Rattle.pt_flow_numbers.specs.MultiplyDivide as multiply_divide
use Rattle.pt_flow_numbers.specs.Ramp as ramp
use Rattle.pt_flow_streams.specs.SampleDelay as sample_delay
use Rattle.pt_flow_numbers.specs.Scale as scale
use Rattle.pt_flow_streams.specs.Sequence as sequence
use Rattle.pt_flow_streams.specs.UpSample as up_sample
use Rattle.pt_kinds.specs.Signature.{AreOf}
use Rattle.pt_typed.specs.TokenTypes.{IsTokenOf, IsUnder, ToFirst}
use Rattle.pt_typed.specs.TypedFlow.{IsValueOf, IsTypedFlow}
use Rattle.pt_kinds.proofs.StreamLaws.{at-given, all-append}
use Rattle.pt_typed.proofs.TypeLaws.{of-value, token-of, all-of}

-- ---- what an answer gives, and the state that it leaves

abbrev Leaves : {A : Type 0} → List Datatype → (A → Type 0) → Answer Token A → Type 0
Leaves us P (Gives b out) = AreOf IsTokenOf us out × P b
Leaves us P (Fails code) = Unit {0}

held : {S A : Type 0} (us : List Datatype) (wrap : S → A) (P : A → Type 0) (r : Answer Token S) → Leaves us (λ s. P (wrap s)) r → Leaves us P (held_as wrap r)
held us wrap P (Gives s out) h = h
held us wrap P (Fails code) h = h

none : {A : Type 0} (us : List Datatype) (Q : Datatype → Type 0) (P : A → Type 0) (a : A) → ToFirst Q us → P a → Leaves us P (rests a)
none [] Q P a h p = absurd h
none (u ∷ us) Q P a h p = ((tt, tt), p)

one : {A : Type 0} (us : List Datatype) (P : A → Type 0) (a : A) (t : Token) → ToFirst (λ u. IsTokenOf u t) us → P a → Leaves us P (gives a t)
one [] P a t h p = absurd h
one (u ∷ us) P a t h p = (((h, tt), tt), p)

-- one integer, where the first output takes integers
exact : {A : Type 0} (us : List Datatype) (P : A → Type 0) (after : A) (n : ℤ) → ToFirst (λ u. IsBelow Int u) us → P after → Leaves us P (exactly after n)
exact us P after n h p = by_test (fits_i64 n)
  where
    by_test : (b : Bool) → Leaves us P (if b then gives after (token.Int n) else Fails (code_of Overflow))
    by_test true = one us P after (token.Int n) h p
    by_test false = tt

present : {A T : Type 0} (us : List Datatype) (Q : Datatype → Type 0) (P : A → Type 0) (a : A) (f : T → Answer Token A) (o : Option T) → ToFirst Q us → P a → ((x : T) → o ≡ Some x → Leaves us P (f x)) → Leaves us P (on_present a f o)
present us Q P a f None q p h = none us Q P a q p
present us Q P a f (Some x) q p h = h x refl

called : {A : Type 0} (us : List Datatype) (Q : Datatype → Type 0) (P : A → Type 0) (over : Bool) (X : Streams Token) (a : A) (r : Answer Token A) → ToFirst Q us → P a → Leaves us P r → Leaves us P (source over X a r)
called us Q P true X a r q p h = none us Q P a q p
called us Q P false X a r q p h = by_test (is_called X)
  where
    by_test : (b : Bool) → Leaves us P (if b then r else rests a)
    by_test true = h
    by_test false = none us Q P a q p

-- ---- integers

added : (us : List Datatype) (a : accumulators.Accumulator) (sum : ℤ) (o : Option ℤ) → ToFirst (λ u. IsBelow Int u) us → Leaves us (λ s. ToFirst (λ u. IsBelow Int u) us) (accumulator.added a sum o)
added us a sum None h = none us (λ u. IsBelow Int u) (λ s. ToFirst (λ u. IsBelow Int u) us) (accumulator.at_sum a sum) h h
added us a sum (Some n) h = exact us (λ s. ToFirst (λ u. IsBelow Int u) us) (accumulator.at_sum a (sum +ℤ n)) (sum +ℤ n) h h

on_ratio : (us : List Datatype) (a : ratios.MultiplyDivide) (o : Option (Result ℤ RunFault)) → ToFirst (λ u. IsBelow Int u) us → Leaves us (λ s. ToFirst (λ u. IsBelow Int u) us) (multiply_divide.on_ratio a o)
on_ratio us a None h = none us (λ u. IsBelow Int u) (λ s. ToFirst (λ u. IsBelow Int u) us) a h h
on_ratio us a (Some (Ok n)) h = one us (λ s. ToFirst (λ u. IsBelow Int u) us) a (token.Int n) h h
on_ratio us a (Some (Err f)) h = tt

zeros-of : (u : Datatype) (n : ℕ) → IsBelow Int u → AllByRecursion (IsTokenOf u) (replicate n (token.Int (pos 0)))
zeros-of u zero h = tt
zeros-of u (suc n) h = (h, zeros-of u n h)

among-of : {A : Type 0} (us : List Datatype) (P : A → Type 0) (a : A) (before : ℕ) (n : ℤ) (after : ℕ) → ToFirst (λ u. IsBelow Int u) us → P a → Leaves us P (Gives a (up_sample.among_zeros before n after ∷ []))
among-of [] P a before n after h p = absurd h
among-of (u ∷ us) P a before n after h p = ((all-append (IsTokenOf u) (up_sample.zeros before) (token.Int n ∷ up_sample.zeros after) (zeros-of u before h) (h, zeros-of u after h), tt), p)

-- ---- tokens that pass

repeated-of : (u : Datatype) (n : ℕ) (xs : List Token) → AllByRecursion (IsTokenOf u) xs → AllByRecursion (IsTokenOf u) (repeated n xs)
repeated-of u zero xs a = tt
repeated-of u (suc n) xs a = all-append (IsTokenOf u) xs (repeated n xs) a (repeated-of u n xs a)

got-of : (u : Datatype) (xs : List Token) (n : ℕ) (t : Token) → AllByRecursion (IsTokenOf u) xs → slice_get xs n ≡ Some t → IsTokenOf u t
got-of u [] n t a e = absurd (cc)
got-of u (x ∷ xs) zero t a e = let same : x ≡ t = cc in subst (λ y. IsTokenOf u y) same a.0
got-of u (x ∷ xs) (suc n) t a e = got-of u xs n t a.1 e

-- the token at a place
place-of : (ps : List Datatype) (X : Streams Token) (n : ℕ) (u : Datatype) (t : Token) → AreOf IsTokenOf ps X → IsUnder (get ps n) u → token_at X n ≡ Some t → IsTokenOf u t
place-of ps X n u t a h e = token-of (get ps n) (at X n) t u (at-given IsTokenOf ps X n a) h e

Selects : List Datatype → List Datatype → Type 0
Selects ps us = ToFirst (λ u. IsUnder (get ps 0) u × IsUnder (get ps 1) u) us

named-of : (ps us : List Datatype) (c : Option Bool) → Selects ps us → Leaves us (λ s. Selects ps us) (boolean_select.named c)
unfolding Selects
named-of ps us None h = none us (λ u. IsUnder (get ps 0) u × IsUnder (get ps 1) u) (λ s. ToFirst (λ u. IsUnder (get ps 0) u × IsUnder (get ps 1) u) us) turns.Control h h
named-of ps us (Some c) h = none us (λ u. IsUnder (get ps 0) u × IsUnder (get ps 1) u) (λ s. ToFirst (λ u. IsUnder (get ps 0) u × IsUnder (get ps 1) u) us) (turns.Input c) h h

selected-of : (ps : List Datatype) (u : Datatype) (us : List Datatype) (tag : Tag) (a : Turn) (X : Streams Token) → AreOf IsTokenOf ps X → IsUnder (get ps 0) u × IsUnder (get ps 1) u → Leaves (u ∷ us) (λ s. IsUnder (get ps 0) u × IsUnder (get ps 1) u) (boolean_select.step tag a X)
unfolding Selects
selected-of ps u us tag turns.Control X a h = named-of ps (u ∷ us) (truth_at X 2) h
selected-of ps u us tag (turns.Input true) X a h =
    present (u ∷ us) (λ v. IsUnder (get ps 0) v) (λ s. IsUnder (get ps 0) u × IsUnder (get ps 1) u) (turns.Input true) (gives turns.Control) (token_at X 0) h.0 h
    (λ t e. one (u ∷ us) (λ s. IsUnder (get ps 0) u × IsUnder (get ps 1) u) turns.Control t (place-of ps X 0 u t a h.0 e) h)
selected-of ps u us tag (turns.Input false) X a h =
    present (u ∷ us) (λ v. IsUnder (get ps 1) v) (λ s. IsUnder (get ps 0) u × IsUnder (get ps 1) u) (turns.Input false) (gives turns.Control) (token_at X 1) h.1 h
    (λ t e. one (u ∷ us) (λ s. IsUnder (get ps 0) u × IsUnder (get ps 1) u) turns.Control t (place-of ps X 1 u t a h.1 e) h)

on-named : (u v : Datatype) (vs : List Datatype) (c : Bool) (t : Token) → IsTokenOf u t → IsTokenOf v t → AreOf IsTokenOf (u ∷ v ∷ vs) (boolean_switch.on_named c t)
on-named u v vs true t h k = ((h, tt), (tt, tt))
on-named u v vs false t h k = (tt, ((k, tt), tt))

switched-of : (ps : List Datatype) (u v : Datatype) (vs : List Datatype) (a : switches.BooleanSwitch) (X : Streams Token) → AreOf IsTokenOf ps X → IsUnder (get ps 0) u × IsUnder (get ps 0) v → (o : Option Token) → token_at X 0 ≡ o → (c : Option Bool) →
    Leaves (u ∷ v ∷ vs) (λ s. IsUnder (get ps 0) u × IsUnder (get ps 0) v) (boolean_switch.switched a o c)
switched-of ps u v vs a X i h (Some t) e (Some c) = (on-named u v vs c t (place-of ps X 0 u t i h.0 e) (place-of ps X 0 v t i h.1 e), h)
switched-of ps u v vs a X i h (Some t) e None = ((tt, (tt, tt)), h)
switched-of ps u v vs a X i h None e c = ((tt, (tt, tt)), h)

-- ---- a sequence

value-at : (u : Datatype) (vs : List Value) (n : ℕ) (v : Value) → AllByRecursion (IsValueOf u) vs → slice_get vs n ≡ Some v → IsValueOf u v
value-at u [] n v a e = absurd (cc)
value-at u (w ∷ vs) zero v a e = let same : w ≡ v = cc in subst (λ y. IsValueOf u y) same a.0
value-at u (w ∷ vs) (suc n) v a e = value-at u vs n v a.1 e

sequence-of : (u : Datatype) (us : List Datatype) (a : sequences.Sequence) (X : Streams Token) (o : Option Value) → sequence.due a ≡ o → AllByRecursion (IsValueOf u) a.values → Leaves (u ∷ us) (λ (s : sequences.Sequence). AllByRecursion (IsValueOf u) s.values) (sequence.given a X o)
sequence-of u us a X None e h = ((tt, tt), h)
sequence-of u us a X (Some v) e h = by_test (is_called X)
  where
    by_test : (b : Bool) → Leaves (u ∷ us) (λ (s : sequences.Sequence). AllByRecursion (IsValueOf u) s.values) (if b then gives (sequence.moved a) (token_of v) else rests a)
    by_test true = (((of-value u v (value-at u a.values a.index v h e), tt), tt), h)
    by_test false = ((tt, tt), h)

-- ---- an expression: what its names stand for is of their types

abbrev Held : Types → Scope → Type 0
Held types scope = (name : List ℕ) → IfSome (types name) (λ t. IsHeld t (scope name))

abbrev Apart : Types → Scope → Type 0
Apart types scope = (name : List ℕ) → types name ≡ None → scope name ≡ None

token-held : (t : Datatype) (o : Option Token) → is_of t o ≡ true → IsHeld t (Some (option_map value_of o))
token-held t None e = tt
token-held t (Some x) e = e

held-inputs : (inputs : List (List ℕ × Datatype)) (X : Streams Token) (types : Types) (s : Scope) → Held types s → are_of inputs X ≡ true → Held (with_types inputs types) (with_inputs (names inputs) X s)
held-inputs [] X types s h e = h
held-inputs (input ∷ inputs) X types s h e =
    held-inputs inputs (drop 1 X) (with_type input.0 input.1 types) (with_name input.0 held s) one (and_right (is_of input.1 (token_at X 0)) (are_of inputs (drop 1 X)) e)
  where
    held : Option Value
    held = option_map value_of (token_at X 0)

    by_test : (name : List ℕ) (b : Bool) → IfSome (if b then Some input.1 else types name) (λ t. IsHeld t (if b then Some held else s name))
    by_test name true = token-held input.1 (token_at X 0) (and_left (is_of input.1 (token_at X 0)) (are_of inputs (drop 1 X)) e)
    by_test name false = h name

    one : Held (with_type input.0 input.1 types) (with_name input.0 held s)
    one name = by_test name (bytes_eq input.0 name)

apart-inputs : (inputs : List (List ℕ × Datatype)) (X : Streams Token) (types : Types) (s : Scope) → Apart types s → Apart (with_types inputs types) (with_inputs (names inputs) X s)
apart-inputs [] X types s h = h
apart-inputs (input ∷ inputs) X types s h = apart-inputs inputs (drop 1 X) (with_type input.0 input.1 types) (with_name input.0 held s) one
  where
    held : Option Value
    held = option_map value_of (token_at X 0)

    by_test : (name : List ℕ) (b : Bool) → (if b then Some input.1 else types name) ≡ None → (if b then Some held else s name) ≡ None
    by_test name true e = cc
    by_test name false e = h name e

    one : Apart (with_type input.0 input.1 types) (with_name input.0 held s)
    one name = by_test name (bytes_eq input.0 name)

held-parameters : (values : List (List ℕ × Token)) → Held (parameter_types values) (parameters values)
held-parameters values name = by_value (value_under name values)
  where
    by_value : (o : Option Token) → IfSome (option_map (λ token. type_of_value (value_of token)) o) (λ t. IsHeld t (option_map (λ token. Some (value_of token)) o))
    by_value None = tt
    by_value (Some token) = below-refl (type_of_value (value_of token))

apart-parameters : (values : List (List ℕ × Token)) → Apart (parameter_types values) (parameters values)
apart-parameters values name = by_value (value_under name values)
  where
    by_value : (o : Option Token) → option_map (λ token. type_of_value (value_of token)) o ≡ None → option_map (λ token. Some (value_of token)) o ≡ None
    by_value None e = refl
    by_value (Some token) e = cc

keeps : (f : Formula) (X : Streams Token) → are_of f.inputs X ≡ true → Keeps (types_of f) (expression.scope f X)
keeps f X fits = record {
  held = held-inputs f.inputs X (parameter_types f.values) (parameters f.values) (held-parameters f.values) fits;
  asked = λ name port e. apart-inputs f.inputs X (parameter_types f.values) (parameters f.values) (apart-parameters f.values) name e;
}

given-of : (t u : Datatype) (o : Outcome Value) → IsOfType t o → IsBelow t u → (v : Value) → o ≡ outcome.Gives v → IsTokenOf u (token_of v)
given-of t u o h k v e = of-value u v (below-trans (type_of_value v) t u (subst (λ (w : Outcome Value). IsOfType t w) e h) k)

-- what its tree gives is of the tree's type
tree-of : (a : Formula) (X : Streams Token) (u : Datatype) → are_of a.inputs X ≡ true → IsBelow (type_or_general (types_of a) a.tree) u → (v : Value) → expression.outcome a X ≡ outcome.Gives v → IsTokenOf u (token_of v)
tree-of a X u fits h v e = by_names (are_bound (types_of a) a.tree) refl h
  where
    by_type : (p : Typing Datatype) → are_bound (types_of a) a.tree ≡ true → tree_type (types_of a) a.tree ≡ p → IsBelow (or_general p) u → IsTokenOf u (token_of v)
    by_type (Has t) b d k = given-of t u (expression.outcome a X) (typed-sound (types_of a) (expression.scope a X) (keeps a X fits) a.tree t (record { bound = b; typed = d })) k v e
    by_type Clash b d k = of-value u v (above-General (type_of_value v) u k)

    by_names : (b : Bool) → are_bound (types_of a) a.tree ≡ b → IsBelow (if b then or_general (tree_type (types_of a) a.tree) else General) u → IsTokenOf u (token_of v)
    by_names true b k = by_type (tree_type (types_of a) a.tree) b refl k
    by_names false b k = of-value u v (above-General (type_of_value v) u k)

answered-of : (u : Datatype) (us : List Datatype) (a : Formula) (P : Formula → Type 0) → P a → (o : Outcome Value) → ((v : Value) → o ≡ outcome.Gives v → IsTokenOf u (token_of v)) → Leaves (u ∷ us) P (expression.answer a o)
answered-of u us a P p (outcome.Gives v) h = (((h v refl, tt), tt), p)
answered-of u us a P p (outcome.Stops fault.DivideByZero) h = tt
answered-of u us a P p (outcome.Stops fault.Overflow) h = tt
answered-of u us a P p (outcome.Stops fault.Index) h = tt
answered-of u us a P p (outcome.Stops fault.Size) h = tt
answered-of u us a P p (outcome.Stops fault.Absent) h = ((tt, tt), p)
answered-of u us a P p (outcome.Stops fault.Memory) h = ((tt, tt), p)
answered-of u us a P p outcome.Wrong h = ((tt, tt), p)

evaluated-of : (u : Datatype) (us : List Datatype) (a : Formula) (X : Streams Token) (P : Formula → Type 0) → P a → IsBelow (type_or_general (types_of a) a.tree) u → (b : Bool) → are_of a.inputs X ≡ b → Leaves (u ∷ us) P (if b then expression.answer a (expression.outcome a X) else rests a)
evaluated-of u us a X P p h true e = answered-of u us a P p (expression.outcome a X) (tree-of a X u e h)
evaluated-of u us a X P p h false e = ((tt, tt), p)

-- ---- each class

leaves-of : (ps us : List Datatype) (tag : Tag) (a : FlowActor) (X : Streams Token) → IsTypedFlow ps us a → AreOf IsTokenOf ps X → Leaves us (IsTypedFlow ps us) (step tag a X)
leaves-of ps us tag (AbsoluteValue a) X h i = held us AbsoluteValue (IsTypedFlow ps us) (absolute_value.step tag a X) (present us (λ u. IsBelow Int u) (λ s. ToFirst (λ u. IsBelow Int u) us) a (λ n. exactly a (pos (nat_abs n))) (number_at X 0) h h (λ n e. exact us (λ s. ToFirst (λ u. IsBelow Int u) us) a (pos (nat_abs n)) h h))
leaves-of ps us tag (Accumulator a) X h i = held us Accumulator (IsTypedFlow ps us) (accumulator.step tag a X) (added us a (accumulator.before a X) (number_at X 0) h)
leaves-of ps us tag (AddSubtract a) X h i = held us AddSubtract (IsTypedFlow ps us) (add_subtract.step tag a X) (present us (λ u. IsBelow Int u) (λ s. ToFirst (λ u. IsBelow Int u) us) a (exactly a) (sum_of a.plus X) h h (λ n e. exact us (λ s. ToFirst (λ u. IsBelow Int u) us) a n h h))
leaves-of ps [] tag (BooleanSelect a) X h i = absurd h
leaves-of ps (u ∷ us) tag (BooleanSelect a) X h i = held (u ∷ us) BooleanSelect (IsTypedFlow ps (u ∷ us)) (boolean_select.step tag a X) (selected-of ps u us tag a X i h)
leaves-of ps [] tag (BooleanSwitch a) X h i = absurd h
leaves-of ps (u ∷ []) tag (BooleanSwitch a) X h i = absurd h
leaves-of ps (u ∷ v ∷ vs) tag (BooleanSwitch a) X h i = held (u ∷ v ∷ vs) BooleanSwitch (IsTypedFlow ps (u ∷ v ∷ vs)) (boolean_switch.step tag a X) (switched-of ps u v vs a X i h (token_at X 0) refl (truth_at X 1))
leaves-of ps us tag (Const a) X h i = held us Const (IsTypedFlow ps us) (constant.step tag a X) (called us (λ u. IsTokenOf u a.value) (λ s. ToFirst (λ u. IsTokenOf u s.value) us) (is_over a.limit) X a (gives (record a { limit = after_one a.limit }) a.value) h h (one us (λ s. ToFirst (λ u. IsTokenOf u s.value) us) (record a { limit = after_one a.limit }) a.value h h))
leaves-of ps us tag (Counter a) X h i = held us Counter (IsTypedFlow ps us) (counter.step tag a X) (present us (λ u. IsBelow Int u) (λ s. ToFirst (λ u. IsBelow Int u) us) a (λ n. exactly (counter.at_count a (a.count +ℤ n)) (a.count +ℤ n)) (counter.change (counter.is_up a X) (counter.is_down a X)) h h (λ n e. exact us (λ s. ToFirst (λ u. IsBelow Int u) us) (counter.at_count a (a.count +ℤ n)) (a.count +ℤ n) h h))
leaves-of ps [] tag (DownSample a) X h i = absurd h
leaves-of ps (u ∷ us) tag (DownSample a) X h i = held (u ∷ us) DownSample (IsTypedFlow ps (u ∷ us)) (down_sample.step tag a X) (present (u ∷ us) (λ v. IsUnder (get ps 0) v) (λ s. IsUnder (get ps 0) u) a (gives a) (slice_get (at X 0) a.index) h h (λ t e. one (u ∷ us) (λ s. IsUnder (get ps 0) u) a t (got-of u (at X 0) a.index t (all-of (get ps 0) (at X 0) u (at-given IsTokenOf ps X 0 i) h) e) h))
leaves-of ps [] tag (Expression a) X h i = absurd h
leaves-of ps (u ∷ us) tag (Expression a) X h i = held (u ∷ us) Expression (IsTypedFlow ps (u ∷ us)) (expression.step tag a X) (evaluated-of u us a X (λ s. IsBelow (type_or_general (types_of s) s.tree) u) h h (are_of a.inputs X) refl)
leaves-of ps us tag (Extreme a) X h i = held us Extreme (IsTypedFlow ps us) (extreme.step tag a X) (present us (λ u. IsBelow Int u) (λ s. ToFirst (λ u. IsBelow Int u) us) a (λ n. gives a (token.Int n)) (extreme.extreme a.side X) h h (λ n e. one us (λ s. ToFirst (λ u. IsBelow Int u) us) a (token.Int n) h h))
leaves-of ps us tag (MultiplyDivide a) X h i = held us MultiplyDivide (IsTypedFlow ps us) (multiply_divide.step tag a X) (on_ratio us a (multiply_divide.ratio_of a.multiply X) h)
leaves-of ps us tag (Ramp a) X h i = held us Ramp (IsTypedFlow ps us) (ramp.step tag a X) (called us (λ u. IsBelow Int u) (λ s. ToFirst (λ u. IsBelow Int u) us) (is_over a.limit) X a (exactly (ramp.fired a) a.next) h h (exact us (λ s. ToFirst (λ u. IsBelow Int u) us) (ramp.fired a) a.next h h))
leaves-of ps [] tag (Repeat a) X h i = absurd h
leaves-of ps (u ∷ us) tag (Repeat a) X h i = ((repeated-of u a.times (at X 0) (all-of (get ps 0) (at X 0) u (at-given IsTokenOf ps X 0 i) h), tt), h)
leaves-of ps [] tag (SampleDelay a) X h i = absurd h.0
leaves-of ps (u ∷ us) tag (SampleDelay a) X h i = held (u ∷ us) SampleDelay (IsTypedFlow ps (u ∷ us)) (sample_delay.step tag a X) (present (u ∷ us) (λ v. IsUnder (get ps 0) v) (λ s. IsUnder (get ps 0) u × AllByRecursion (λ v. AllByRecursion (IsTokenOf v) s.initial) (u ∷ us)) a (gives a) (token_at X 0) h.0 h (λ t e. one (u ∷ us) (λ s. IsUnder (get ps 0) u × AllByRecursion (λ v. AllByRecursion (IsTokenOf v) s.initial) (u ∷ us)) a t (place-of ps X 0 u t i h.0 e) h))
leaves-of ps us tag (Scale a) X h i = held us Scale (IsTypedFlow ps us) (scale.step tag a X) (present us (λ u. IsBelow Int u) (λ s. ToFirst (λ u. IsBelow Int u) us) a (λ n. exactly a (n *ℤ a.factor)) (number_at X 0) h h (λ n e. exact us (λ s. ToFirst (λ u. IsBelow Int u) us) a (n *ℤ a.factor) h h))
leaves-of ps [] tag (Sequence a) X h i = absurd h
leaves-of ps (u ∷ us) tag (Sequence a) X h i = held (u ∷ us) Sequence (IsTypedFlow ps (u ∷ us)) (sequence.step tag a X) (sequence-of u us a X (sequence.due a) refl h)
leaves-of ps us tag (UpSample a) X h i = held us UpSample (IsTypedFlow ps us) (up_sample.step tag a X) (present us (λ u. IsBelow Int u) (λ s. ToFirst (λ u. IsBelow Int u) us) a (λ n. Gives a (up_sample.among_zeros a.before n a.after ∷ [])) (number_at X 0) h h (λ n e. among-of us (λ s. ToFirst (λ u. IsBelow Int u) us) a a.before n a.after h h))

pub flow-keeps : (ps us : List Datatype) (a b : FlowActor) (tag : Tag) (X out : Streams Token) → IsTypedFlow ps us a → AreOf IsTokenOf ps X → step tag a X ≡ Gives b out → AreOf IsTokenOf us out × IsTypedFlow ps us b
flow-keeps ps us a b tag X out h i e = subst (λ r. Leaves us (IsTypedFlow ps us) r) e (leaves-of ps us tag a X h i)

-- its first tokens are of the type of each of its outputs
output-at : (us : List Datatype) (P : Datatype → Type 0) (n : ℕ) (u : Datatype) → AllByRecursion P us → get us n ≡ Some u → P u
output-at [] P n u a e = absurd (cc)
output-at (v ∷ us) P zero u a e = let same : v ≡ u = cc in subst (λ w. P w) same a.0
output-at (v ∷ us) P (suc n) u a e = output-at us P n u a.1 e

pub first-of : (ps us : List Datatype) (a : FlowActor) (n : ℕ) (u : Datatype) → IsTypedFlow ps us a → get us n ≡ Some u → AllByRecursion (IsTokenOf u) (first a)
first-of ps us (AbsoluteValue a) n u h e = tt
first-of ps us (Accumulator a) n u h e = tt
first-of ps us (AddSubtract a) n u h e = tt
first-of ps us (BooleanSelect a) n u h e = tt
first-of ps us (BooleanSwitch a) n u h e = tt
first-of ps us (Const a) n u h e = tt
first-of ps us (Counter a) n u h e = tt
first-of ps us (DownSample a) n u h e = tt
first-of ps us (Expression a) n u h e = tt
first-of ps us (Extreme a) n u h e = tt
first-of ps us (MultiplyDivide a) n u h e = tt
first-of ps us (Ramp a) n u h e = tt
first-of ps us (Repeat a) n u h e = tt
first-of ps us (SampleDelay a) n u h e = output-at us (λ v. AllByRecursion (IsTokenOf v) a.initial) n u h.1 e
first-of ps us (Scale a) n u h e = tt
first-of ps us (Sequence a) n u h e = tt
first-of ps us (UpSample a) n u h e = tt
