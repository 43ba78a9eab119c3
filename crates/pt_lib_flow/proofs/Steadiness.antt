-- What a step leaves as it was: the need of an actor that is steady.
use Rattle.std.proofs.Common.{◌≡◌, ℕ, zero, suc, ◌<◌, ◌+◌, List, [], ◌∷◌, length, Bool, true, false, ◌&&◌, Option, Some, None, Result, Ok, Err, ℤ, pos, nat_abs, ◌+ℤ◌, ◌*ℤ◌, refl, sym, ap, subst, ◌∙◌, slice_get, arith, leb, if◌then◌else◌}
use Rattle.std.proofs.lemmas.Bool.{leb-false}
use Rattle.pt_meaning.specs.Basics.{Tag, Streams, at}
use Rattle.pt_meaning.specs.Node.{Answer, Gives, Fails}
use Rattle.pt_value.specs.Value.{Value}
use Rattle.pt_value.specs.Token.{token_of}
use Rattle.pt_value.specs.declared.token.Token.{Token}
use Rattle.pt_value.specs.declared.token.Token.TheVariants as token
use Rattle.pt_language.specs.declared.eval_fault.EvalFault.{EvalFault}
use Rattle.pt_language.specs.declared.eval_fault.EvalFault.TheVariants as fault
use Rattle.pt_language.specs.Outcome as outcome
use Rattle.pt_language.specs.Outcome.{Outcome}
use Rattle.pt_firing.specs.RunFault.{code_of}
use Rattle.pt_firing.specs.declared.fault.RunFault.{RunFault}
use Rattle.pt_firing.specs.declared.fault.RunFault.TheVariants.{Overflow}
use Rattle.pt_lib_flow.specs.declared.flow_actor.FlowActor.{FlowActor}
use Rattle.pt_lib_flow.specs.declared.flow_actor.FlowActor.TheVariants.{AbsoluteValue, Accumulator, AddSubtract, BooleanSelect, BooleanSwitch, Const, Counter, DownSample, Expression, Extreme, MultiplyDivide, Ramp, Repeat, SampleDelay, Scale, Sequence, UpSample}
use Rattle.pt_flow_base.specs.declared.limit.Limit.{Limit}
use Rattle.pt_flow_base.specs.declared.limit.Limit.TheVariants.{Endless, Left}
use Rattle.pt_flow_numbers.specs.declared.accumulator.Accumulator as accumulators
use Rattle.pt_flow_streams.specs.declared.boolean_switch.BooleanSwitch as switches
use Rattle.pt_flow_streams.specs.declared.constant.Const as constants
use Rattle.pt_flow_numbers.specs.declared.counter.Counter as counters
use Rattle.pt_flow_numbers.specs.declared.multiply_divide.MultiplyDivide as ratios
use Rattle.pt_flow_numbers.specs.declared.ramp.Ramp as ramps
use Rattle.pt_flow_streams.specs.declared.sequence.Sequence as sequences
use Rattle.pt_flow_base.specs.Row.{gives, rests, exactly, fits_i64, on_present, token_at, number_at, truth_at, sum_of}
use Rattle.pt_flow_base.specs.Limit.{is_over, after_one, is_called, source, source_need, is_endless}
use Rattle.pt_formula.specs.Formula.{Formula, are_of}
use Rattle.pt_lib_flow.specs.FlowActor.{held_as, need, step, is_steady}
use Rattle.pt_flow_numbers.specs.AbsoluteValue as absolute_value
use Rattle.pt_flow_numbers.specs.Accumulator as accumulator
use Rattle.pt_flow_numbers.specs.AddSubtract as add_subtract
use Rattle.pt_flow_streams.specs.BooleanSwitch as boolean_switch
use Rattle.pt_flow_streams.specs.Const as constant
use Rattle.pt_flow_numbers.specs.Counter as counter
use Rattle.pt_flow_streams.specs.DownSample as down_sample
use Rattle.pt_lib_flow.specs.Expression as expression
use Rattle.pt_flow_numbers.specs.Extreme as extreme
use Rattle.pt_flow_numbers.specs.MultiplyDivide as multiply_divide
use Rattle.pt_flow_numbers.specs.Ramp as ramp
use Rattle.pt_flow_streams.specs.Repeat as repeat
use Rattle.pt_flow_streams.specs.SampleDelay as sample_delay
use Rattle.pt_flow_numbers.specs.Scale as scale
use Rattle.pt_flow_streams.specs.Sequence as sequence
use Rattle.pt_flow_streams.specs.UpSample as up_sample

-- ---- what holds of the state that an answer leaves, if it leaves one

abbrev pub Leaves : {A : Type 0} → (A → Type 0) → Answer Token A → Type 0
Leaves P (Gives b out) = P b
Leaves P (Fails code) = Unit {0}

pub held : {S A : Type 0} (wrap : S → A) (P : A → Type 0) (r : Answer Token S) → Leaves (λ s. P (wrap s)) r → Leaves P (held_as wrap r)
held wrap P (Gives s out) h = h
held wrap P (Fails code) h = h

exact : {A : Type 0} (P : A → Type 0) (after : A) (n : ℤ) → P after → Leaves P (exactly after n)
exact P after n p = by_test (fits_i64 n)
  where
    by_test : (b : Bool) → Leaves P (if b then gives after (token.Int n) else Fails (code_of Overflow))
    by_test true = p
    by_test false = tt

present : {A T : Type 0} (P : A → Type 0) (a : A) (f : T → Answer Token A) (o : Option T) → P a → ((x : T) → Leaves P (f x)) → Leaves P (on_present a f o)
present P a f None p h = p
present P a f (Some x) p h = h x

called : {A : Type 0} (P : A → Type 0) (over : Bool) (X : Streams Token) (a : A) (r : Answer Token A) → P a → Leaves P r → Leaves P (source over X a r)
called P true X a r p h = p
called P false X a r p h = by_test (is_called X)
  where
    by_test : (b : Bool) → Leaves P (if b then r else rests a)
    by_test true = h
    by_test false = p

-- ---- each class

-- it needs the same, and stays steady
abbrev pub Same : FlowActor → FlowActor → Type 0
Same a b = (need b ≡ need a) × (is_steady b ≡ true)

added : (a : accumulators.Accumulator) (sum : ℤ) (o : Option ℤ) → Leaves (λ s. Same (Accumulator a) (Accumulator s)) (accumulator.added a sum o)
added a sum None = (refl, refl)
added a sum (Some n) = exact (λ s. Same (Accumulator a) (Accumulator s)) (accumulator.at_sum a (sum +ℤ n)) (sum +ℤ n) (refl, refl)

switched : (a : switches.BooleanSwitch) (t : Option Token) (c : Option Bool) → Leaves (λ s. Same (BooleanSwitch a) (BooleanSwitch s)) (boolean_switch.switched a t c)
switched a (Some t) (Some c) = (refl, refl)
switched a (Some t) None = (refl, refl)
switched a None c = (refl, refl)

on_ratio : (a : ratios.MultiplyDivide) (o : Option (Result ℤ RunFault)) → Leaves (λ s. Same (MultiplyDivide a) (MultiplyDivide s)) (multiply_divide.on_ratio a o)
on_ratio a None = (refl, refl)
on_ratio a (Some (Ok n)) = (refl, refl)
on_ratio a (Some (Err f)) = tt

answered : (a : Formula) (o : Outcome Value) → Leaves (λ s. Same (Expression a) (Expression s)) (expression.answer a o)
answered a (outcome.Gives v) = (refl, refl)
answered a (outcome.Stops fault.DivideByZero) = tt
answered a (outcome.Stops fault.Overflow) = tt
answered a (outcome.Stops fault.Index) = tt
answered a (outcome.Stops fault.Size) = tt
answered a (outcome.Stops fault.Absent) = (refl, refl)
answered a (outcome.Stops fault.Memory) = (refl, refl)
answered a outcome.Wrong = (refl, refl)

evaluated : (a : Formula) (X : Streams Token) (b : Bool) → Leaves (λ s. Same (Expression a) (Expression s)) (if b then expression.answer a (expression.outcome a X) else rests a)
evaluated a X true = answered a (expression.outcome a X)
evaluated a X false = (refl, refl)

-- a source without a limit has none after a firing
endless-after : (l : Limit) → is_endless l ≡ true → after_one l ≡ l
endless-after Endless e = refl
endless-after (Left n) e = cc

constant-fired : (a : constants.Const) → is_endless a.limit ≡ true → Same (Const a) (Const (record a { limit = after_one a.limit }))
constant-fired a e =
    let same = endless-after a.limit e in
    (ap (λ l. source_need (is_over l) a.places) same, ap is_endless same ∙ e)

ramp-fired : (a : ramps.Ramp) → is_endless a.limit ≡ true → Same (Ramp a) (Ramp (ramp.fired a))
ramp-fired a e =
    let same = endless-after a.limit e in
    (ap (λ l. source_need (is_over l) a.places) same, ap is_endless same ∙ e)

-- ---- a sequence that begins again

short-of : (xs : List Value) (i : ℕ) (v : Value) → slice_get xs i ≡ Some v → i < length xs
short-of [] i v e = cc
short-of (x ∷ xs) zero v e = omega arith
short-of (x ∷ xs) (suc i) v e = omega (arith, short-of xs i v e)

some-at : (xs : List Value) (i : ℕ) → i < length xs → (v : Value) × (slice_get xs i ≡ Some v)
some-at [] i short = absurd (omega arith)
some-at (x ∷ xs) zero short = (x, refl)
some-at (x ∷ xs) (suc i) short = some-at xs i (omega arith)

index-short : (count i : ℕ) → i < count → sequence.index_after true count i < count
unfolding sequence.index_after
index-short count i short = by_test (leb count (i + 1)) refl
  where
    by_test : (b : Bool) → leb count (i + 1) ≡ b → (if b then 0 else i + 1) < count
    by_test true e = omega (arith, short)
    by_test false e = omega (arith, leb-false count (i + 1) e)

sequence-moved : (a : sequences.Sequence) (v : Value) → sequence.due a ≡ Some v → a.cyclic ≡ true → Same (Sequence a) (Sequence (sequence.moved a))
sequence-moved a v due cyclic =
    let count = length a.values in
    let next = sequence.index_after a.cyclic count a.index in
    let short : next < count = subst (λ b. sequence.index_after b count a.index < count) (sym cyclic) (index-short count a.index (short-of a.values a.index v due)) in
    let found = some-at a.values next short in
    (ap (sequence.need_by a.places) found.1 ∙ sym (ap (sequence.need_by a.places) due), cyclic)

sequence-given : (a : sequences.Sequence) (X : Streams Token) (o : Option Value) → sequence.due a ≡ o → a.cyclic ≡ true → Leaves (λ s. Same (Sequence a) (Sequence s)) (sequence.given a X o)
sequence-given a X None due cyclic = (refl, cyclic)
sequence-given a X (Some v) due cyclic = by_test (is_called X)
  where
    by_test : (b : Bool) → Leaves (λ s. Same (Sequence a) (Sequence s)) (if b then gives (sequence.moved a) (token_of v) else rests a)
    by_test true = sequence-moved a v due cyclic
    by_test false = (refl, cyclic)

-- ---- all of them

pub steady-leaves : (tag : Tag) (a : FlowActor) (X : Streams Token) → is_steady a ≡ true → Leaves (Same a) (step tag a X)
steady-leaves tag (AbsoluteValue a) X e = held AbsoluteValue (Same (AbsoluteValue a)) (absolute_value.step tag a X) (present (λ s. Same (AbsoluteValue a) (AbsoluteValue s)) a (λ n. exactly a (pos (nat_abs n))) (number_at X 0) (refl, refl) (λ n. exact (λ s. Same (AbsoluteValue a) (AbsoluteValue s)) a (pos (nat_abs n)) (refl, refl)))
steady-leaves tag (Accumulator a) X e = held Accumulator (Same (Accumulator a)) (accumulator.step tag a X) (added a (accumulator.before a X) (number_at X 0))
steady-leaves tag (AddSubtract a) X e = held AddSubtract (Same (AddSubtract a)) (add_subtract.step tag a X) (present (λ s. Same (AddSubtract a) (AddSubtract s)) a (exactly a) (sum_of a.plus X) (refl, refl) (λ n. exact (λ s. Same (AddSubtract a) (AddSubtract s)) a n (refl, refl)))
steady-leaves tag (BooleanSelect a) X e = cc
steady-leaves tag (BooleanSwitch a) X e = held BooleanSwitch (Same (BooleanSwitch a)) (boolean_switch.step tag a X) (switched a (token_at X 0) (truth_at X 1))
steady-leaves tag (Const a) X e = held Const (Same (Const a)) (constant.step tag a X) (called (λ s. Same (Const a) (Const s)) (is_over a.limit) X a (gives (record a { limit = after_one a.limit }) a.value) (refl, e) (constant-fired a e))
steady-leaves tag (Counter a) X e = held Counter (Same (Counter a)) (counter.step tag a X) (present (λ s. Same (Counter a) (Counter s)) a (λ n. exactly (counter.at_count a (a.count +ℤ n)) (a.count +ℤ n)) (counter.change (counter.is_up a X) (counter.is_down a X)) (refl, refl) (λ n. exact (λ s. Same (Counter a) (Counter s)) (counter.at_count a (a.count +ℤ n)) (a.count +ℤ n) (refl, refl)))
steady-leaves tag (DownSample a) X e = held DownSample (Same (DownSample a)) (down_sample.step tag a X) (present (λ s. Same (DownSample a) (DownSample s)) a (gives a) (slice_get (at X 0) a.index) (refl, refl) (λ t. (refl, refl)))
steady-leaves tag (Expression a) X e = held Expression (Same (Expression a)) (expression.step tag a X) (evaluated a X (are_of a.inputs X))
steady-leaves tag (Extreme a) X e = held Extreme (Same (Extreme a)) (extreme.step tag a X) (present (λ s. Same (Extreme a) (Extreme s)) a (λ n. gives a (token.Int n)) (extreme.extreme a.side X) (refl, refl) (λ n. (refl, refl)))
steady-leaves tag (MultiplyDivide a) X e = held MultiplyDivide (Same (MultiplyDivide a)) (multiply_divide.step tag a X) (on_ratio a (multiply_divide.ratio_of a.multiply X))
steady-leaves tag (Ramp a) X e = held Ramp (Same (Ramp a)) (ramp.step tag a X) (called (λ s. Same (Ramp a) (Ramp s)) (is_over a.limit) X a (exactly (ramp.fired a) a.next) (refl, e) (exact (λ s. Same (Ramp a) (Ramp s)) (ramp.fired a) a.next (ramp-fired a e)))
steady-leaves tag (Repeat a) X e = (refl, refl)
steady-leaves tag (SampleDelay a) X e = held SampleDelay (Same (SampleDelay a)) (sample_delay.step tag a X) (present (λ s. Same (SampleDelay a) (SampleDelay s)) a (gives a) (token_at X 0) (refl, refl) (λ t. (refl, refl)))
steady-leaves tag (Scale a) X e = held Scale (Same (Scale a)) (scale.step tag a X) (present (λ s. Same (Scale a) (Scale s)) a (λ n. exactly a (n *ℤ a.factor)) (number_at X 0) (refl, refl) (λ n. exact (λ s. Same (Scale a) (Scale s)) a (n *ℤ a.factor) (refl, refl)))
steady-leaves tag (Sequence a) X e = held Sequence (Same (Sequence a)) (sequence.step tag a X) (sequence-given a X (sequence.due a) refl e)
steady-leaves tag (UpSample a) X e = held UpSample (Same (UpSample a)) (up_sample.step tag a X) (present (λ s. Same (UpSample a) (UpSample s)) a (λ n. Gives a (up_sample.among_zeros a.before n a.after ∷ [])) (number_at X 0) (refl, refl) (λ n. (refl, refl)))

pub steady-stay : (tag : Tag) (a b : FlowActor) (X out : Streams Token) → is_steady a ≡ true → step tag a X ≡ Gives b out → Same a b
steady-stay tag a b X out e gave = subst (Leaves (Same a)) gave (steady-leaves tag a X e)
