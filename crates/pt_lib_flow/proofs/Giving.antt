-- How many tokens a step gives: nothing, or as many as the actor's rate.
use Rattle.std.proofs.Common.{◌≡◌, ℕ, zero, suc, ◌+◌, ◌*◌, List, [], ◌∷◌, ◌++◌, length, map, replicate, Bool, true, false, ◌⊎◌, inl, inr, Option, Some, None, Result, Ok, Err, ℤ, pos, nat_abs, ◌+ℤ◌, ◌*ℤ◌, refl, sym, ap, subst, ◌∙◌, slice_get, arith, if◌then◌else◌}
use Rattle.std.specs.Prelude.{IfSome}
use Rattle.std.proofs.lemmas.List.{length-append, length-replicate}
use Rattle.pt_meaning.specs.Basics.{Tag, Streams, at}
use Rattle.pt_meaning.specs.Machine.{Need, Counts}
use Rattle.pt_meaning.specs.Node.{Answer, Gives, Fails}
use Rattle.pt_value.specs.Value.{Value}
use Rattle.pt_value.specs.Token.{token_of}
use Rattle.pt_value.specs.declared.token.Token.{Token}
use Rattle.pt_value.specs.declared.token.Token.TheVariants as token
use Rattle.pt_language.specs.declared.eval_fault.EvalFault.TheVariants as fault
use Rattle.pt_language.specs.Outcome as outcome
use Rattle.pt_language.specs.Outcome.{Outcome}
use Rattle.pt_firing.specs.RunFault.{code_of}
use Rattle.pt_firing.specs.declared.fault.RunFault.{RunFault}
use Rattle.pt_firing.specs.declared.fault.RunFault.TheVariants.{Overflow}
use Rattle.pt_lib_flow.specs.declared.flow_actor.FlowActor.{FlowActor}
use Rattle.pt_lib_flow.specs.declared.flow_actor.FlowActor.TheVariants.{AbsoluteValue, Accumulator, AddSubtract, BooleanSelect, BooleanSwitch, Const, Counter, DownSample, Expression, Extreme, MultiplyDivide, Ramp, Repeat, SampleDelay, Scale, Sequence, UpSample}
use Rattle.pt_flow_numbers.specs.declared.accumulator.Accumulator as accumulators
use Rattle.pt_flow_numbers.specs.declared.multiply_divide.MultiplyDivide as ratios
use Rattle.pt_flow_streams.specs.declared.repeat.Repeat as repeats
use Rattle.pt_flow_streams.specs.declared.sequence.Sequence as sequences
use Rattle.pt_flow_streams.specs.declared.up_sample.UpSample as ups
use Rattle.pt_flow_base.specs.Row.{gives, rests, exactly, fits_i64, on_present, token_at, number_at, sum_of}
use Rattle.pt_flow_base.specs.Limit.{is_over, is_called, source, after_one}
use Rattle.pt_formula.specs.Formula.{Formula, are_of}
use Rattle.pt_flow_base.specs.Rates.{repeated}
use Rattle.pt_lib_flow.specs.FlowActor.{held_as, need, rate, step}
use Rattle.pt_flow_numbers.specs.AbsoluteValue as absolute_value
use Rattle.pt_flow_numbers.specs.Accumulator as accumulator
use Rattle.pt_flow_numbers.specs.AddSubtract as add_subtract
use Rattle.pt_flow_streams.specs.Const as constant
use Rattle.pt_flow_numbers.specs.Counter as counter
use Rattle.pt_flow_streams.specs.DownSample as down_sample
use Rattle.pt_lib_flow.specs.Expression as expression
use Rattle.pt_flow_numbers.specs.Extreme as extreme
use Rattle.pt_flow_numbers.specs.MultiplyDivide as multiply_divide
use Rattle.pt_flow_numbers.specs.Ramp as ramp
use Rattle.pt_flow_streams.specs.Repeat as repeat
use Rattle.pt_flow_streams.specs.SampleDelay as sample_delay
use Rattle.pt_flow_numbers.specs.Scale as scale
use Rattle.pt_flow_streams.specs.Sequence as sequence
use Rattle.pt_flow_streams.specs.UpSample as up_sample
use Rattle.pt_lib_flow.specs.Laws.{IsGiven}

-- the outputs of an answer, if it has any
abbrev Pours : {A : Type 0} → ℕ → Answer Token A → Type 0
Pours n (Gives b out) = IsGiven n out
Pours n (Fails code) = Unit {0}

held : {S A : Type 0} (wrap : S → A) (n : ℕ) (r : Answer Token S) → Pours n r → Pours n (held_as wrap r)
held wrap n (Gives s out) h = h
held wrap n (Fails code) h = h

exact : {A : Type 0} (after : A) (k : ℤ) → Pours 1 (exactly after k)
exact after k = by_test (fits_i64 k)
  where
    by_test : (b : Bool) → Pours 1 (if b then gives after (token.Int k) else Fails (code_of Overflow))
    by_test true = inr refl
    by_test false = tt

present : {A T : Type 0} (n : ℕ) (a : A) (f : T → Answer Token A) (o : Option T) → ((x : T) → Pours n (f x)) → Pours n (on_present a f o)
present n a f None h = inl refl
present n a f (Some x) h = h x

called : {A : Type 0} (over : Bool) (X : Streams Token) (a : A) (r : Answer Token A) → Pours 1 r → Pours 1 (source over X a r)
called true X a r h = inl refl
called false X a r h = by_test (is_called X)
  where
    by_test : (b : Bool) → Pours 1 (if b then r else rests a)
    by_test true = h
    by_test false = inl refl

added : (a : accumulators.Accumulator) (sum : ℤ) (o : Option ℤ) → Pours 1 (accumulator.added a sum o)
added a sum None = inl refl
added a sum (Some n) = exact (accumulator.at_sum a (sum +ℤ n)) (sum +ℤ n)

on_ratio : (a : ratios.MultiplyDivide) (o : Option (Result ℤ RunFault)) → Pours 1 (multiply_divide.on_ratio a o)
on_ratio a None = inl refl
on_ratio a (Some (Ok n)) = inr refl
on_ratio a (Some (Err f)) = tt

answered : (a : Formula) (o : Outcome Value) → Pours 1 (expression.answer a o)
answered a (outcome.Gives v) = inr refl
answered a (outcome.Stops fault.DivideByZero) = tt
answered a (outcome.Stops fault.Overflow) = tt
answered a (outcome.Stops fault.Index) = tt
answered a (outcome.Stops fault.Size) = tt
answered a (outcome.Stops fault.Absent) = inl refl
answered a (outcome.Stops fault.Memory) = inl refl
answered a outcome.Wrong = inl refl

evaluated : (a : Formula) (X : Streams Token) (b : Bool) → Pours 1 (if b then expression.answer a (expression.outcome a X) else rests a)
evaluated a X true = answered a (expression.outcome a X)
evaluated a X false = inl refl

sequence-given : (a : sequences.Sequence) (X : Streams Token) (o : Option Value) → Pours 1 (sequence.given a X o)
sequence-given a X None = inl refl
sequence-given a X (Some v) = by_test (is_called X)
  where
    by_test : (b : Bool) → Pours 1 (if b then gives (sequence.moved a) (token_of v) else rests a)
    by_test true = inr refl
    by_test false = inl refl

-- ---- several tokens

length-among : (a : ups.UpSample) (k : ℤ) → length (up_sample.among_zeros a.before k a.after) ≡ up_sample.rate a
length-among a k = length-append (up_sample.zeros a.before) (token.Int k ∷ up_sample.zeros a.after) ∙ omega (arith, length-replicate a.before (token.Int (pos 0)), length-replicate a.after (token.Int (pos 0)))

length-repeated : {T : Type 0} (n : ℕ) (xs : List T) → length (repeated n xs) ≡ n * length xs
length-repeated zero xs = omega arith
length-repeated (suc n) xs = length-append xs (repeated n xs) ∙ ap (λ k. length xs + k) (length-repeated n xs) ∙ omega arith

first-length : (X : Streams Token) → repeat.size_in (map length X) ≡ length (at X 0)
first-length [] = refl
first-length (xs ∷ X) = refl

length-block : (a : repeats.Repeat) (X : Streams Token) → Counts a.needed ≡ Counts (map length X) → length (repeated a.times (at X 0)) ≡ repeat.rate a
length-block a X e =
    let same : a.needed ≡ map length X = cc in
    length-repeated a.times (at X 0) ∙ ap (λ k. a.times * k) (sym (first-length X) ∙ sym (ap repeat.size_in same))

-- ---- all of them

pours : (tag : Tag) (a : FlowActor) (X : Streams Token) → need a ≡ Counts (map length X) → IfSome (rate a) (λ n. Pours n (step tag a X))
pours tag (AbsoluteValue a) X e = held AbsoluteValue 1 (absolute_value.step tag a X) (present 1 a (λ k. exactly a (pos (nat_abs k))) (number_at X 0) (λ k. exact a (pos (nat_abs k))))
pours tag (Accumulator a) X e = held Accumulator 1 (accumulator.step tag a X) (added a (accumulator.before a X) (number_at X 0))
pours tag (AddSubtract a) X e = held AddSubtract 1 (add_subtract.step tag a X) (present 1 a (exactly a) (sum_of a.plus X) (λ k. exact a k))
pours tag (BooleanSelect a) X e = tt
pours tag (BooleanSwitch a) X e = tt
pours tag (Const a) X e = held Const 1 (constant.step tag a X) (called (is_over a.limit) X a (gives (record a { limit = after_one a.limit }) a.value) (inr refl))
pours tag (Counter a) X e = held Counter 1 (counter.step tag a X) (present 1 a (λ k. exactly (counter.at_count a (a.count +ℤ k)) (a.count +ℤ k)) (counter.change (counter.is_up a X) (counter.is_down a X)) (λ k. exact (counter.at_count a (a.count +ℤ k)) (a.count +ℤ k)))
pours tag (DownSample a) X e = held DownSample 1 (down_sample.step tag a X) (present 1 a (gives a) (slice_get (at X 0) a.index) (λ t. inr refl))
pours tag (Expression a) X e = held Expression 1 (expression.step tag a X) (evaluated a X (are_of a.inputs X))
pours tag (Extreme a) X e = held Extreme 1 (extreme.step tag a X) (present 1 a (λ k. gives a (token.Int k)) (extreme.extreme a.side X) (λ k. inr refl))
pours tag (MultiplyDivide a) X e = held MultiplyDivide 1 (multiply_divide.step tag a X) (on_ratio a (multiply_divide.ratio_of a.multiply X))
pours tag (Ramp a) X e = held Ramp 1 (ramp.step tag a X) (called (is_over a.limit) X a (exactly (ramp.fired a) a.next) (exact (ramp.fired a) a.next))
pours tag (Repeat a) X e = inr (length-block a X e)
pours tag (SampleDelay a) X e = held SampleDelay 1 (sample_delay.step tag a X) (present 1 a (gives a) (token_at X 0) (λ t. inr refl))
pours tag (Scale a) X e = held Scale 1 (scale.step tag a X) (present 1 a (λ k. exactly a (k *ℤ a.factor)) (number_at X 0) (λ k. exact a (k *ℤ a.factor)))
pours tag (Sequence a) X e = held Sequence 1 (sequence.step tag a X) (sequence-given a X (sequence.due a))
pours tag (UpSample a) X e = held UpSample (up_sample.rate a) (up_sample.step tag a X) (present (up_sample.rate a) a (λ k. Gives a (up_sample.among_zeros a.before k a.after ∷ [])) (number_at X 0) (λ k. inr (length-among a k)))

pub rates-given : (tag : Tag) (a b : FlowActor) (X out : Streams Token) (n : ℕ) → rate a ≡ Some n → need a ≡ Counts (map length X) → step tag a X ≡ Gives b out → IsGiven n out
rates-given tag a b X out n e supplied gave =
    let h : Pours n (step tag a X) = subst (λ o. IfSome o (λ m. Pours m (step tag a X))) e (pours tag a X supplied) in
    subst (Pours n) gave h
