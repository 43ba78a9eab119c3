-- How many tokens an actor needs and gives, from the ranges of its parameters.
use Rattle.std.proofs.Common.{◌≡◌, ℕ, zero, suc, ◌<◌, ◌≤◌, ◌+◌, ◌-◌, ◌*◌, List, [], ◌∷◌, replicate, Bool, true, false, ◌&&◌, Option, Some, None, ℤ, pos, negsuc, refl, sym, ap, subst, ◌∙◌, arith, leb, ltb, if◌then◌else◌}
use Rattle.std.specs.Prelude.{option_map, IfSome, int_le, int_lt, unsigned_abs, codes}
use Rattle.std.specs.List.{AllByRecursion}
use Rattle.std.proofs.lemmas.Bool.{leb-true, ltb-true}
use Rattle.pt_meaning.specs.Basics.{Tag, Streams}
use Rattle.pt_meaning.specs.Node.{Answer, Gives}
use Rattle.pt_meaning.specs.Machine.{Need}
use Rattle.pt_datatypes.proofs.Fields.{and_left, and_right}
use Rattle.pt_value.specs.Value.{Value}
use Rattle.pt_value.specs.declared.token.Token.{Token}
use Rattle.pt_firing.specs.Params.{int_or, only_within}
use Rattle.pt_lib_flow.specs.declared.flow_actor.FlowActor.{FlowActor}
use Rattle.pt_lib_flow.specs.declared.flow_actor.FlowActor.TheVariants.{AbsoluteValue, Accumulator, AddSubtract, BooleanSelect, BooleanSwitch, Const, Counter, DownSample, Expression, Extreme, MultiplyDivide, Ramp, Repeat, SampleDelay, Scale, Sequence, UpSample}
use Rattle.pt_lib_flow.specs.declared.flow_actor.Class.{Class}
use Rattle.pt_lib_flow.specs.declared.flow_actor.Class.TheVariants as class
use Rattle.pt_flow_numbers.specs.declared.extreme.Side.TheVariants.{Greatest, Least}
use Rattle.pt_flow_base.specs.declared.params.Params.{Params}
use Rattle.pt_flow_streams.specs.declared.down_sample.DownSample as downs
use Rattle.pt_flow_streams.specs.declared.up_sample.UpSample as ups
use Rattle.pt_flow_streams.specs.declared.repeat.Repeat as repeats
use Rattle.pt_flow_base.specs.Row.{one_each}
use Rattle.pt_flow_base.specs.Limit.{is_over, source_need}
use Rattle.pt_flow_base.specs.Rates.{IsCount, IsCounted, phased, factor_and_phase, repeated_block, times_and_size}
use Rattle.pt_lib_flow.specs.FlowActor.{need, step, rate, is_steady, start_as, start_in, start, class_of}
use Rattle.pt_flow_numbers.specs.AbsoluteValue as absolute_value
use Rattle.pt_flow_numbers.specs.Accumulator as accumulator
use Rattle.pt_flow_numbers.specs.AddSubtract as add_subtract
use Rattle.pt_flow_streams.specs.BooleanSelect as boolean_select
use Rattle.pt_flow_streams.specs.BooleanSwitch as boolean_switch
use Rattle.pt_flow_streams.specs.Const as constant
use Rattle.pt_flow_numbers.specs.Counter as counter
use Rattle.pt_flow_streams.specs.DownSample as down_sample
use Rattle.pt_lib_flow.specs.Expression as expression
use Rattle.pt_flow_numbers.specs.Extreme as extreme
use Rattle.pt_flow_numbers.specs.MultiplyDivide as multiply_divide
use Rattle.pt_flow_numbers.specs.Ramp as ramp
use Rattle.pt_flow_streams.specs.Repeat as repeat
use Rattle.pt_flow_streams.specs.SampleDelay as sample_delay
use Rattle.pt_flow_numbers.specs.Scale as scale
use Rattle.pt_flow_streams.specs.Sequence as sequence
use Rattle.pt_flow_streams.specs.UpSample as up_sample

-- ---- the ranges of parameters

within : (low high : ℕ) (n : ℤ) → int_le (pos low) n ≡ true → int_le n (pos high) ≡ true → (low ≤ unsigned_abs n) × (unsigned_abs n ≤ high)
within low high (pos n) e f = (leb-true low n e, leb-true n high f)
within low high (negsuc n) e f = cc

ranged : (o : Option ℤ) (n : ℤ) → only_within (pos 1) (pos 1000000) o ≡ Some n → IsCount (unsigned_abs n)
ranged None n e = cc
ranged (Some m) n e = by_test (int_le (pos 1) m && int_le m (pos 1000000)) refl e
  where
    by_test : (b : Bool) → (int_le (pos 1) m && int_le m (pos 1000000)) ≡ b → (if b then Some m else None) ≡ Some n → IsCount (unsigned_abs n)
    by_test true t h =
        let same : m ≡ n = cc in
        let bounds = within 1 1000000 m (and_left (int_le (pos 1) m) (int_le m (pos 1000000)) t) (and_right (int_le (pos 1) m) (int_le m (pos 1000000)) t) in
        subst (λ k. IsCount (unsigned_abs k)) same (record { least = bounds.0; most = bounds.1 })
    by_test false t h = cc

-- a phase from 0 to below a factor
below : (m n : ℤ) → int_le (pos 0) m ≡ true → int_lt m n ≡ true → unsigned_abs m < unsigned_abs n
below (pos m) (pos n) e f = ltb-true m n f
below (pos m) (negsuc n) e f = cc
below (negsuc m) n e f = cc

-- a pair, where a test holds
abbrev chosen : Bool → ℕ → ℕ → Option (ℕ × ℕ)
chosen b m n = if b then Some (m, n) else None

same-pair : (x y : ℕ × ℕ) → Some x ≡ Some y → x ≡ y
same-pair x y e = cc

phased-bounds : (o p : Option ℤ) (f t : ℕ) → phased (only_within (pos 1) (pos 1000000) o) p ≡ Some (f, t) → IsCount f × (t < f)
phased-bounds o p f t e = by_factor (only_within (pos 1) (pos 1000000) o) p refl e
  where
    by_test : (m n : ℤ) (b : Bool) → (int_le (pos 0) n && int_lt n m) ≡ b → IsCount (unsigned_abs m) → chosen b (unsigned_abs m) (unsigned_abs n) ≡ Some (f, t) → IsCount f × (t < f)
    by_test m n true h c d =
        let both = same-pair (unsigned_abs m, unsigned_abs n) (f, t) d in
        let first : unsigned_abs m ≡ f = ap (λ (q : ℕ × ℕ). q.0) both in
        let second : unsigned_abs n ≡ t = ap (λ (q : ℕ × ℕ). q.1) both in
        let short = below n m (and_left (int_le (pos 0) n) (int_lt n m) h) (and_right (int_le (pos 0) n) (int_lt n m) h) in
        (subst IsCount first c, omega (arith, short, first, second))
    by_test m n false h c d = cc

    by_factor : (q r : Option ℤ) → only_within (pos 1) (pos 1000000) o ≡ q → phased q r ≡ Some (f, t) → IsCount f × (t < f)
    by_factor (Some m) (Some n) h d = by_test m n (int_le (pos 0) n && int_lt n m) refl (ranged o m h) d
    by_factor (Some m) None h d = cc
    by_factor None r h d = cc

block-bounds : (o p : Option ℤ) (n s : ℕ) → repeated_block (only_within (pos 1) (pos 1000000) o) (only_within (pos 1) (pos 1000000) p) ≡ Some (n, s) → IsCount s × IsCount (n * s)
block-bounds o p n s e = by_both (only_within (pos 1) (pos 1000000) o) (only_within (pos 1) (pos 1000000) p) refl refl e
  where
    positive : (a b : ℕ) → 1 ≤ a → 1 ≤ b → 1 ≤ a * b
    positive zero b h k = absurd (omega (arith, h))
    positive (suc a) zero h k = absurd (omega (arith, k))
    positive (suc a) (suc b) h k = omega arith

    by_test : (a b : ℕ) (c : Bool) → leb (a * b) 1000000 ≡ c → IsCount a → IsCount b → chosen c a b ≡ Some (n, s) → IsCount s × IsCount (n * s)
    by_test a b true h i j d =
        let both = same-pair (a, b) (n, s) d in
        let first : a ≡ n = ap (λ (q : ℕ × ℕ). q.0) both in
        let second : b ≡ s = ap (λ (q : ℕ × ℕ). q.1) both in
        let size : IsCount (a * b) = record { least = positive a b i.least j.least; most = leb-true (a * b) 1000000 h } in
        (subst IsCount second j, subst (λ k. IsCount (n * k)) second (subst (λ k. IsCount (k * b)) first size))
    by_test a b false h i j d = cc

    by_both : (q r : Option ℤ) → only_within (pos 1) (pos 1000000) o ≡ q → only_within (pos 1) (pos 1000000) p ≡ r → repeated_block q r ≡ Some (n, s) → IsCount s × IsCount (n * s)
    by_both (Some a) (Some b) h k d = by_test (unsigned_abs a) (unsigned_abs b) (leb (unsigned_abs a * unsigned_abs b) 1000000) refl (ranged o a h) (ranged p b k) d
    by_both (Some a) None h k d = cc
    by_both None r h k d = cc

-- ---- actors that are started

-- what the parameters of an actor keep to
abbrev IsInRange : FlowActor → Type 0
IsInRange (DownSample a) = AllByRecursion IsCount a.needed
IsInRange (UpSample a) = IsCount (up_sample.rate a)
IsInRange (Repeat a) = AllByRecursion IsCount a.needed × IsCount (repeat.rate a)
IsInRange a = Unit {0}

down-started : (o : Option (ℕ × ℕ)) (a : downs.DownSample) → ((f t : ℕ) → o ≡ Some (f, t) → IsCount f × (t < f)) → down_sample.start_by o ≡ Some a → IsInRange (DownSample a)
down-started None a h e = cc
down-started (Some (f, t)) a h e =
    let b : downs.DownSample = record { needed = f ∷ []; index = f - 1 - t } in
    let same : b ≡ a = cc in
    subst (λ (c : downs.DownSample). IsInRange (DownSample c)) same ((h f t refl).0, tt)

up-started : (o : Option (ℕ × ℕ)) (a : ups.UpSample) → ((f t : ℕ) → o ≡ Some (f, t) → IsCount f × (t < f)) → up_sample.start_by o ≡ Some a → IsInRange (UpSample a)
up-started None a h e = cc
up-started (Some (f, t)) a h e =
    let b : ups.UpSample = record { before = t; after = f - 1 - t; places = 1 } in
    let same : b ≡ a = cc in
    let bounds = h f t refl in
    subst (λ (c : ups.UpSample). IsInRange (UpSample c)) same (record { least = omega arith; most = omega (arith, bounds.0.most, bounds.1) })

repeat-started : (o : Option (ℕ × ℕ)) (a : repeats.Repeat) → ((n s : ℕ) → o ≡ Some (n, s) → IsCount s × IsCount (n * s)) → repeat.start_by o ≡ Some a → IsInRange (Repeat a)
repeat-started None a h e = cc
repeat-started (Some (n, s)) a h e =
    let b : repeats.Repeat = record { needed = s ∷ []; times = n } in
    let same : b ≡ a = cc in
    let bounds = h n s refl in
    subst (λ (c : repeats.Repeat). IsInRange (Repeat c)) same ((bounds.0, tt), bounds.1)

from : {A : Type 0} (wrap : A → FlowActor) (o : Option A) (a : FlowActor) → ((x : A) → o ≡ Some x → IsInRange (wrap x)) → option_map wrap o ≡ Some a → IsInRange a
from wrap None a h e = cc
from wrap (Some x) a h e = let same : wrap x ≡ a = cc in subst IsInRange same (h x refl)

as-started : (c : Class) (params : Params) (a : FlowActor) → start_as c params ≡ Some a → IsInRange a
as-started class.AbsoluteValue params a e = from AbsoluteValue (absolute_value.start params) a (λ x h. tt) e
as-started class.Accumulator params a e = from Accumulator (accumulator.start params) a (λ x h. tt) e
as-started class.AddSubtract params a e = from AddSubtract (add_subtract.start params) a (λ x h. tt) e
as-started class.BooleanSelect params a e = from BooleanSelect (boolean_select.start params) a (λ x h. tt) e
as-started class.BooleanSwitch params a e = from BooleanSwitch (boolean_switch.start params) a (λ x h. tt) e
as-started class.Const params a e = from Const (constant.start params) a (λ x h. tt) e
as-started class.Counter params a e = from Counter (counter.start params) a (λ x h. tt) e
as-started class.DownSample params a e = from DownSample (down_sample.start params) a (λ x h. down-started (factor_and_phase params.values) x (λ f t. phased-bounds (int_or (codes "factor") (pos 2) params.values) (int_or (codes "phase") (pos 0) params.values) f t) h) e
as-started class.Expression params a e = from Expression (expression.start params) a (λ x h. tt) e
as-started class.Maximum params a e = from Extreme (extreme.start Greatest params) a (λ x h. tt) e
as-started class.Minimum params a e = from Extreme (extreme.start Least params) a (λ x h. tt) e
as-started class.MultiplyDivide params a e = from MultiplyDivide (multiply_divide.start params) a (λ x h. tt) e
as-started class.Ramp params a e = from Ramp (ramp.start params) a (λ x h. tt) e
as-started class.Repeat params a e = from Repeat (repeat.start params) a (λ x h. repeat-started (times_and_size params.values) x (λ n s. block-bounds (int_or (codes "numberOfTimes") (pos 2) params.values) (int_or (codes "blockSize") (pos 1) params.values) n s) h) e
as-started class.SampleDelay params a e = from SampleDelay (sample_delay.start params) a (λ x h. tt) e
as-started class.Scale params a e = from Scale (scale.start params) a (λ x h. tt) e
as-started class.Sequence params a e = from Sequence (sequence.start params) a (λ x h. tt) e
as-started class.UpSample params a e = from UpSample (up_sample.start params) a (λ x h. up-started (factor_and_phase params.values) x (λ f t. phased-bounds (int_or (codes "factor") (pos 2) params.values) (int_or (codes "phase") (pos 0) params.values) f t) h) e

in-started : (o : Option Class) (params : Params) (a : FlowActor) → start_in o params ≡ Some a → IsInRange a
in-started None params a e = cc
in-started (Some c) params a e = as-started c params a e

-- ---- what they need and give

ones : (n : ℕ) → AllByRecursion IsCount (replicate n 1)
ones zero = tt
ones (suc n) = (record { least = omega arith; most = omega arith }, ones n)

one : IsCount 1
one = record { least = omega arith; most = omega arith }

source-counted : (over : Bool) (places : ℕ) → IsCounted (source_need over places)
source-counted true places = tt
source-counted false places = ones places

due-counted : (places : ℕ) (o : Option Value) → IsCounted (sequence.need_by places o)
due-counted places None = tt
due-counted places (Some v) = ones places

needs : (a : FlowActor) → IsInRange a → is_steady a ≡ true → IsCounted (need a)
needs (AbsoluteValue a) h e = ones a.places
needs (Accumulator a) h e = ones a.places
needs (AddSubtract a) h e = ones a.places
needs (BooleanSelect a) h e = cc
needs (BooleanSwitch a) h e = ones a.places
needs (Const a) h e = source-counted (is_over a.limit) a.places
needs (Counter a) h e = ones a.places
needs (DownSample a) h e = h
needs (Expression a) h e = ones _
needs (Extreme a) h e = ones a.places
needs (MultiplyDivide a) h e = ones a.places
needs (Ramp a) h e = source-counted (is_over a.limit) a.places
needs (Repeat a) h e = h.0
needs (SampleDelay a) h e = ones a.places
needs (Scale a) h e = ones a.places
needs (Sequence a) h e = due-counted a.places (sequence.due a)
needs (UpSample a) h e = ones a.places

gives : (a : FlowActor) → IsInRange a → IfSome (rate a) IsCount
gives (AbsoluteValue a) h = one
gives (Accumulator a) h = one
gives (AddSubtract a) h = one
gives (BooleanSelect a) h = tt
gives (BooleanSwitch a) h = tt
gives (Const a) h = one
gives (Counter a) h = one
gives (DownSample a) h = one
gives (Expression a) h = one
gives (Extreme a) h = one
gives (MultiplyDivide a) h = one
gives (Ramp a) h = one
gives (Repeat a) h = h.1
gives (SampleDelay a) h = one
gives (Scale a) h = one
gives (Sequence a) h = one
gives (UpSample a) h = h

pub started-needs : (params : Params) (a : FlowActor) → start params ≡ Some a → is_steady a ≡ true → IsCounted (need a)
started-needs params a e = needs a (in-started (class_of params.class) params a e)

pub started-gives : (params : Params) (a : FlowActor) → start params ≡ Some a → IfSome (rate a) IsCount
started-gives params a e = gives a (in-started (class_of params.class) params a e)
