-- Tokens by the types that they have, and what operators make of them.
use Rattle.std.proofs.Common.{◌≡◌, ℕ, zero, suc, ℤ, pos, negsuc, Bool, true, false, not, ◌&&◌, List, ◌++◌, length, Option, Some, if◌then◌else◌, refl, sym, ap}
use Rattle.std.proofs.lemmas.Bool.{false≢true}
use Rattle.std.specs.Prelude.{slice_get, chars, int_div, ◌+ℤ◌, ◌-ℤ◌, ◌*ℤ◌}
use Rattle.std.specs.Str.{bytes_eq}
use Rattle.pt_value.specs.Value as val
use Rattle.pt_value.specs.Value.{Value, Values, no_values, value_then, Named, list_of, values_of, size}
use Rattle.pt_value.specs.Record.{field_at}
use Rattle.pt_datatypes.specs.Datatype.{Datatype, Unknown, Int, Boolean, Words, Array, Record, General, FieldTypes, no_fields, field_then}
use Rattle.pt_datatypes.specs.Normal.{array_of, record_of}
use Rattle.pt_datatypes.specs.Order.{is_below, are_below, IsBelow}
use Rattle.pt_datatypes.specs.Join.{join}
use Rattle.pt_datatypes.specs.Token.{type_of_value, join_of, field_types}
use Rattle.pt_datatypes.proofs.Fields.{and_left, and_right}
use Rattle.pt_datatypes.proofs.Joins.{below-normal, join-below}
use Rattle.pt_datatypes.proofs.Order.{same_bytes, below-trans}
use Rattle.pt_language.specs.declared.expr.BinaryOp.{BinaryOp}
use Rattle.pt_language.specs.declared.expr.BinaryOp.TheVariants as op
use Rattle.pt_language.specs.declared.eval_fault.EvalFault.TheVariants.{Overflow, Size}
use Rattle.pt_language.specs.Outcome.{Outcome, Gives, Stops, Wrong, and_then}
use Rattle.pt_language.specs.Comparable.{is_general, have_join}
use Rattle.pt_language.specs.Meaning as meaning
use Rattle.pt_language.specs.Typing as typing
use Rattle.pt_language.specs.Typing.{Typing, Has, Clash, where_true}
use Rattle.pt_language.specs.TreeType.{number, are_both, summed, calculated, ordered, decided, compared, operated, chosen, element, applied, type_in, field, length_of}
use Rattle.pt_language.specs.Grows.{not_general-below}
use Rattle.pt_language.proofs.JoinLaws.{join-first, join-second}

-- what gives no value is fine, and what is wrong never is; under a clash nothing is claimed
abbrev pub Sound : {A B : Type 0} → (A → B → Type 0) → Typing A → Outcome B → Type 0
Sound R Clash o = Unit {0}
Sound R (Has a) (Gives b) = R a b
Sound R (Has a) (Stops fault) = Unit {0}
Sound R (Has a) Wrong = ⊥

-- the type of the token is below
abbrev pub Of : Datatype → Value → Type 0
Of t v = IsBelow (type_of_value v) t

pub stops-sound : {A B : Type 0} (R : A → B → Type 0) (p : Typing A) (f : _) → Sound R p (Stops f)
stops-sound R Clash f = tt
stops-sound R (Has a) f = tt

-- ---- tokens by their types

array-of : (vs : Values) (u : Datatype) → Of u (val.Array vs) → IsBelow (Array (join_of vs)) u
array-of vs u h = below-trans (Array (join_of vs)) (array_of (join_of vs)) u (below-normal (Array (join_of vs))) h

record-of : (fs : Named) (u : Datatype) → Of u (val.Record fs) → IsBelow (Record (field_types fs)) u
record-of fs u h = below-trans (Record (field_types fs)) (record_of (field_types fs)) u (below-normal (Record (field_types fs))) h

pub never-unknown : (v : Value) → Of Unknown v → ⊥
never-unknown (val.Int n) h = false≢true h
never-unknown (val.Bool b) h = false≢true h
never-unknown (val.Words xs) h = false≢true h
never-unknown (val.Array vs) h = false≢true (array-of vs Unknown h)
never-unknown (val.Record fs) h = false≢true (record-of fs Unknown h)

-- ---- one operand

pub int-sound : (t : Datatype) (run : ℤ → Outcome Value) → ((n : ℤ) → Sound Of (Has t) (run n)) → (v : Value) → Of Int v → Sound Of (Has t) (meaning.of_int run v)
int-sound t run all (val.Int n) h = all n
int-sound t run all (val.Bool b) h = absurd (false≢true h)
int-sound t run all (val.Words xs) h = absurd (false≢true h)
int-sound t run all (val.Array vs) h = absurd (false≢true (array-of vs Int h))
int-sound t run all (val.Record fs) h = absurd (false≢true (record-of fs Int h))

pub ints-sound : (t : Datatype) (run : ℤ → ℤ → Outcome Value) → ((m n : ℤ) → Sound Of (Has t) (run m n)) → (v w : Value) → Of Int v → Of Int w → Sound Of (Has t) (meaning.of_ints run v w)
ints-sound t run all (val.Int m) w h k = int-sound t (run m) (all m) w k
ints-sound t run all (val.Bool b) w h k = absurd (false≢true h)
ints-sound t run all (val.Words xs) w h k = absurd (false≢true h)
ints-sound t run all (val.Array vs) w h k = absurd (false≢true (array-of vs Int h))
ints-sound t run all (val.Record fs) w h k = absurd (false≢true (record-of fs Int h))

exact-by : (b : Bool) (n : ℤ) → Sound Of (Has Int) (if b then Gives (val.Int n) else Stops Overflow)
exact-by true n = refl
exact-by false n = tt

pub exact-sound : (n : ℤ) → Sound Of (Has Int) (meaning.exact n)
exact-sound n = exact-by (meaning.fits n) n

within-by : (t : Datatype) (v : Value) (b : Bool) → Of t v → Sound Of (Has t) (if b then Gives v else Stops Size)
within-by t v true h = h
within-by t v false h = tt

pub within-sound : (t : Datatype) (v : Value) → Of t v → Sound Of (Has t) (meaning.within v)
within-sound t v h = within-by t v _ h

-- ---- what is asked of operands

pub where-sound : {B : Type 0} (R : Datatype → B → Type 0) (b : Bool) (t : Datatype) (o : Outcome B) → (b ≡ true → Sound R (Has t) o) → Sound R (where_true b t) o
where-sound R true t o h = h refl
where-sound R false t o h = tt

-- a greater type
pub raise-sound : (s t : Datatype) (o : Outcome Value) → IsBelow s t → Sound Of (Has s) o → Sound Of (Has t) o
raise-sound s t (Gives v) h k = below-trans (type_of_value v) s t k h
raise-sound s t (Stops f) h k = tt
raise-sound s t Wrong h k = k

pub number-sound : (t : Datatype) (run : ℤ → Outcome Value) → ((n : ℤ) → Sound Of (Has Int) (run n)) → (v : Value) → Of t v → Sound Of (number t) (meaning.of_int run v)
number-sound t run all v h = where-sound Of (is_below t Int) Int (meaning.of_int run v) (λ e. int-sound Int run all v (below-trans (type_of_value v) t Int h e))

two-ints : (s t r : Datatype) (run : ℤ → ℤ → Outcome Value) → ((m n : ℤ) → Sound Of (Has r) (run m n)) → (v w : Value) → Of s v → Of t w → Sound Of (where_true (are_both Int s t) r) (meaning.of_ints run v w)
two-ints s t r run all v w h k = where-sound Of (are_both Int s t) r (meaning.of_ints run v w)
    (λ e. ints-sound r run all v w (below-trans (type_of_value v) s Int h (and_left (is_below s Int) (is_below t Int) e)) (below-trans (type_of_value w) t Int k (and_right (is_below s Int) (is_below t Int) e)))

pub calculated-sound : (run : ℤ → ℤ → Outcome Value) → ((m n : ℤ) → Sound Of (Has Int) (run m n)) → (s t : Datatype) (v w : Value) → Of s v → Of t w → Sound Of (calculated s t) (meaning.of_ints run v w)
calculated-sound run all s t v w h k = two-ints s t Int run all v w h k

ordered-sound : (run : ℤ → ℤ → Outcome Value) → ((m n : ℤ) → Sound Of (Has Boolean) (run m n)) → (s t : Datatype) (v w : Value) → Of s v → Of t w → Sound Of (ordered s t) (meaning.of_ints run v w)
ordered-sound run all s t v w h k = two-ints s t Boolean run all v w h k

-- ---- truth values

pub denied-sound : (v : Value) → Of Boolean v → Sound Of (Has Boolean) (meaning.denied v)
denied-sound (val.Bool b) h = refl
denied-sound (val.Int n) h = absurd (false≢true h)
denied-sound (val.Words xs) h = absurd (false≢true h)
denied-sound (val.Array vs) h = absurd (false≢true (array-of vs Boolean h))
denied-sound (val.Record fs) h = absurd (false≢true (record-of fs Boolean h))

-- a condition, and what follows on either answer
pub test-sound : (t : Datatype) (run : Bool → Outcome Value) → ((b : Bool) → Sound Of (Has t) (run b)) → (o : Outcome Value) → Sound Of (Has Boolean) o → Sound Of (Has t) (and_then o (λ v. and_then (meaning.truth v) run))
test-sound t run all (Gives (val.Bool b)) h = all b
test-sound t run all (Gives (val.Int n)) h = absurd (false≢true h)
test-sound t run all (Gives (val.Words xs)) h = absurd (false≢true h)
test-sound t run all (Gives (val.Array vs)) h = absurd (false≢true (array-of vs Boolean h))
test-sound t run all (Gives (val.Record fs)) h = absurd (false≢true (record-of fs Boolean h))
test-sound t run all (Stops f) h = tt
test-sound t run all Wrong h = h

either-then : (later : Outcome Value) → Sound Of (Has Boolean) later → (b : Bool) → Sound Of (Has Boolean) (if b then Gives (val.Bool true) else and_then later (λ y. and_then (meaning.truth y) (λ c. Gives (val.Bool c))))
either-then later h true = refl
either-then later h false = test-sound Boolean (λ c. Gives (val.Bool c)) (λ c. refl) later h

both-then : (later : Outcome Value) → Sound Of (Has Boolean) later → (b : Bool) → Sound Of (Has Boolean) (if b then and_then later (λ y. and_then (meaning.truth y) (λ c. Gives (val.Bool c))) else Gives (val.Bool false))
both-then later h true = test-sound Boolean (λ c. Gives (val.Bool c)) (λ c. refl) later h
both-then later h false = refl

-- two conditions, of which the later may not count
decided-sound : (join' : Outcome Value → Outcome Value → Outcome Value) → ((first later : Outcome Value) → Sound Of (Has Boolean) first → Sound Of (Has Boolean) later → Sound Of (Has Boolean) (join' first later)) → (p q : Typing Datatype) (first later : Outcome Value) → Sound Of p first → Sound Of q later → Sound Of (typing.and_then p (λ a. typing.and_then q (decided a))) (join' first later)
decided-sound join' all Clash q first later h k = tt
decided-sound join' all (Has a) Clash first later h k = tt
decided-sound join' all (Has a) (Has b) first later h k = where-sound Of (are_both Boolean a b) Boolean (join' first later)
    (λ e. all first later (raise-sound a Boolean first (and_left (is_below a Boolean) (is_below b Boolean) e) h) (raise-sound b Boolean later (and_right (is_below a Boolean) (is_below b Boolean) e) k))

chosen-then : (b c : Datatype) (first second : Outcome Value) → Sound Of (Has b) first → Sound Of (Has c) second → (x : Bool) → Sound Of (Has (join b c)) (if x then first else second)
chosen-then b c first second h k true = raise-sound b (join b c) first (join-first b c) h
chosen-then b c first second h k false = raise-sound c (join b c) second (join-second b c) k

pub chosen-sound : (p q r : Typing Datatype) (test first second : Outcome Value) → Sound Of p test → Sound Of q first → Sound Of r second → Sound Of (typing.and_then p (λ a. typing.and_then q (λ b. typing.and_then r (chosen a b)))) (meaning.chosen test first second)
chosen-sound Clash q r test first second h k l = tt
chosen-sound (Has a) Clash r test first second h k l = tt
chosen-sound (Has a) (Has b) Clash test first second h k l = tt
chosen-sound (Has a) (Has b) (Has c) test first second h k l = where-sound Of (is_below a Boolean) (join b c) (meaning.chosen test first second)
    (λ e. test-sound (join b c) (λ x. if x then first else second) (chosen-then b c first second k l) test (raise-sound a Boolean test e h))

-- ---- sums and comparisons

sum-sound : (j : Datatype) (x y : Value) → Of j x → Of j y → Sound Of (summed j) (meaning.sum x y)
sum-sound Unknown x y h k = absurd (never-unknown x h)
sum-sound Int (val.Int m) (val.Int n) h k = exact-sound (m +ℤ n)
sum-sound Int (val.Int m) (val.Bool b) h k = absurd (false≢true k)
sum-sound Int (val.Int m) (val.Words xs) h k = absurd (false≢true k)
sum-sound Int (val.Int m) (val.Array vs) h k = absurd (false≢true (array-of vs Int k))
sum-sound Int (val.Int m) (val.Record fs) h k = absurd (false≢true (record-of fs Int k))
sum-sound Int (val.Bool b) y h k = absurd (false≢true h)
sum-sound Int (val.Words xs) y h k = absurd (false≢true h)
sum-sound Int (val.Array vs) y h k = absurd (false≢true (array-of vs Int h))
sum-sound Int (val.Record fs) y h k = absurd (false≢true (record-of fs Int h))
sum-sound Words (val.Words xs) (val.Words ys) h k = within-sound Words (val.Words (xs ++ ys)) refl
sum-sound Words (val.Words xs) (val.Int n) h k = absurd (false≢true k)
sum-sound Words (val.Words xs) (val.Bool b) h k = absurd (false≢true k)
sum-sound Words (val.Words xs) (val.Array vs) h k = absurd (false≢true (array-of vs Words k))
sum-sound Words (val.Words xs) (val.Record fs) h k = absurd (false≢true (record-of fs Words k))
sum-sound Words (val.Int n) y h k = absurd (false≢true h)
sum-sound Words (val.Bool b) y h k = absurd (false≢true h)
sum-sound Words (val.Array vs) y h k = absurd (false≢true (array-of vs Words h))
sum-sound Words (val.Record fs) y h k = absurd (false≢true (record-of fs Words h))
sum-sound Boolean x y h k = tt
sum-sound (Array t) x y h k = tt
sum-sound (Record fs) x y h k = tt
sum-sound General x y h k = tt

added-sound : (s t : Datatype) (x y : Value) → Of s x → Of t y → Sound Of (summed (join s t)) (meaning.sum x y)
added-sound s t x y h k = sum-sound (join s t) x y (below-trans (type_of_value x) s (join s t) h (join-first s t)) (below-trans (type_of_value y) t (join s t) k (join-second s t))

compared-by : (b r : Bool) → b ≡ true → Sound Of (Has Boolean) (if b then Gives (val.Bool r) else Wrong)
compared-by true r e = refl
compared-by false r e = cc

compared-sound : (answer : Bool → Bool) (s t : Datatype) (x y : Value) → Of s x → Of t y → Sound Of (compared s t) (meaning.compared answer x y)
compared-sound answer s t x y h k = where-sound Of (not (is_general (join s t))) Boolean (meaning.compared answer x y)
    (λ e. compared-by (have_join x y) _ (not_general-below (join (type_of_value x) (type_of_value y)) (join s t) (join-below (type_of_value x) (type_of_value y) s t h k) e))

-- ---- operators between two operands

quotient-sound : (m n : ℤ) → Sound Of (Has Int) (meaning.quotient m n)
quotient-sound m (pos zero) = tt
quotient-sound m (pos (suc n)) = exact-sound (int_div m (pos (suc n)))
quotient-sound m (negsuc n) = exact-sound (int_div m (negsuc n))

remainder-sound : (m n : ℤ) → Sound Of (Has Int) (meaning.remainder m n)
remainder-sound m (pos zero) = tt
remainder-sound m (pos (suc n)) = refl
remainder-sound m (negsuc n) = refl

pub then-sound : {A B C D : Type 0} (R : A → B → Type 0) (S : C → D → Type 0) (p : Typing A) (o : Outcome B) (go : A → Typing C) (run : B → Outcome D) → Sound R p o → ((a : A) (b : B) → R a b → Sound S (go a) (run b)) → Sound S (typing.and_then p go) (and_then o run)
then-sound R S Clash o go run h k = tt
then-sound R S (Has a) (Gives b) go run h k = k a b h
then-sound R S (Has a) (Stops f) go run h k = stops-sound S (go a) f
then-sound R S (Has a) Wrong go run h k = absurd h

pub two-sound : (p q : Typing Datatype) (o r : Outcome Value) (go : Datatype → Datatype → Typing Datatype) (run : Value → Value → Outcome Value) → ((s t : Datatype) (x y : Value) → Of s x → Of t y → Sound Of (go s t) (run x y)) → Sound Of p o → Sound Of q r → Sound Of (typing.and_then p (λ a. typing.and_then q (go a))) (and_then o (λ x. and_then r (run x)))
two-sound p q o r go run all h k = then-sound Of Of p o (λ a. typing.and_then q (go a)) (λ x. and_then r (run x)) h (λ s x l. then-sound Of Of q r (go s) (run x) k (λ t y m. all s t x y l m))

pub operated-sound : (o : BinaryOp) (p q : Typing Datatype) (first later : Outcome Value) → Sound Of p first → Sound Of q later → Sound Of (typing.and_then p (λ a. typing.and_then q (operated o a))) (meaning.operated o first later)
operated-sound op.Or p q first later h k = decided-sound meaning.either (λ f l m n. test-sound Boolean _ (either-then l n) f m) p q first later h k
operated-sound op.And p q first later h k = decided-sound meaning.both (λ f l m n. test-sound Boolean _ (both-then l n) f m) p q first later h k
operated-sound op.Equal p q first later h k = two-sound p q first later compared (meaning.compared (λ b. b)) (compared-sound (λ b. b)) h k
operated-sound op.Unequal p q first later h k = two-sound p q first later compared (meaning.compared not) (compared-sound not) h k
operated-sound op.Less p q first later h k = two-sound p q first later ordered (meaning.of_ints (meaning.arithmetic op.Less)) (ordered-sound (meaning.arithmetic op.Less) (λ m n. refl)) h k
operated-sound op.LessEqual p q first later h k = two-sound p q first later ordered (meaning.of_ints (meaning.arithmetic op.LessEqual)) (ordered-sound (meaning.arithmetic op.LessEqual) (λ m n. refl)) h k
operated-sound op.Greater p q first later h k = two-sound p q first later ordered (meaning.of_ints (meaning.arithmetic op.Greater)) (ordered-sound (meaning.arithmetic op.Greater) (λ m n. refl)) h k
operated-sound op.GreaterEqual p q first later h k = two-sound p q first later ordered (meaning.of_ints (meaning.arithmetic op.GreaterEqual)) (ordered-sound (meaning.arithmetic op.GreaterEqual) (λ m n. refl)) h k
operated-sound op.Add p q first later h k = two-sound p q first later (λ s t. summed (join s t)) meaning.sum added-sound h k
operated-sound op.Subtract p q first later h k = two-sound p q first later calculated (meaning.of_ints (meaning.arithmetic op.Subtract)) (calculated-sound (meaning.arithmetic op.Subtract) (λ m n. exact-sound (m -ℤ n))) h k
operated-sound op.Multiply p q first later h k = two-sound p q first later calculated (meaning.of_ints (meaning.arithmetic op.Multiply)) (calculated-sound (meaning.arithmetic op.Multiply) (λ m n. exact-sound (m *ℤ n))) h k
operated-sound op.Divide p q first later h k = two-sound p q first later calculated (meaning.of_ints (meaning.arithmetic op.Divide)) (calculated-sound (meaning.arithmetic op.Divide) quotient-sound) h k
operated-sound op.Remainder p q first later h k = two-sound p q first later calculated (meaning.of_ints (meaning.arithmetic op.Remainder)) (calculated-sound (meaning.arithmetic op.Remainder) remainder-sound) h k

-- ---- parts

at-sound : (vs : Values) (u : Datatype) → IsBelow (join_of vs) u → (n : ℕ) → Sound Of (Has u) (meaning.found (slice_get (list_of vs) n))
at-sound no_values u h n = tt
at-sound (value_then v vs) u h zero = below-trans (type_of_value v) (join_of (value_then v vs)) u (join-first (type_of_value v) (join_of vs)) h
at-sound (value_then v vs) u h (suc n) = at-sound vs u (below-trans (join_of vs) (join_of (value_then v vs)) u (join-second (type_of_value v) (join_of vs)) h) n

index-sound : (vs : Values) (u : Datatype) → IsBelow (join_of vs) u → (y : Value) → Of Int y → Sound Of (Has u) (meaning.element (val.Array vs) y)
index-sound vs u h (val.Int (pos n)) k = at-sound vs u h n
index-sound vs u h (val.Int (negsuc n)) k = tt
index-sound vs u h (val.Bool b) k = absurd (false≢true k)
index-sound vs u h (val.Words xs) k = absurd (false≢true k)
index-sound vs u h (val.Array ws) k = absurd (false≢true (array-of ws Int k))
index-sound vs u h (val.Record fs) k = absurd (false≢true (record-of fs Int k))

element-sound : (s : Datatype) (x y : Value) → Of s x → Of Int y → Sound Of (element s) (meaning.element x y)
element-sound Unknown x y h k = absurd (never-unknown x h)
element-sound (Array u) (val.Array vs) y h k = index-sound vs u (array-of vs (Array u) h) y k
element-sound (Array u) (val.Int n) y h k = absurd (false≢true h)
element-sound (Array u) (val.Bool b) y h k = absurd (false≢true h)
element-sound (Array u) (val.Words xs) y h k = absurd (false≢true h)
element-sound (Array u) (val.Record fs) y h k = absurd (false≢true (record-of fs (Array u) h))
element-sound Int x y h k = tt
element-sound Boolean x y h k = tt
element-sound Words x y h k = tt
element-sound (Record fs) x y h k = tt
element-sound General x y h k = tt

applied-by : (b : Bool) (p : Typing Datatype) (o : Outcome Value) → (b ≡ true → Sound Of p o) → Sound Of (if b then p else Clash) o
applied-by true p o h = h refl
applied-by false p o h = tt

pub applied-sound : (s t : Datatype) (x y : Value) → Of s x → Of t y → Sound Of (applied s t) (meaning.element x y)
applied-sound s t x y h k = applied-by (is_below t Int) (element s) (meaning.element x y) (λ e. element-sound s x y h (below-trans (type_of_value y) t Int k e))

in-by : (b : Bool) (t : Datatype) (p : Typing Datatype) (v : Value) (o : Option Value) → Of t v → Sound Of p (meaning.there o) → Sound Of (if b then Has t else p) (meaning.there (if b then Some v else o))
in-by true t p v o h k = h
in-by false t p v o h k = k

in-sound : (fs : Named) (gs : FieldTypes) (name : List ℕ) → are_below (field_types fs) gs ≡ true → Sound Of (type_in gs name) (meaning.there (field_at (val.fields_of fs) name))
in-sound val.no_fields no_fields name h = tt
in-sound val.no_fields (field_then n t gs) name h = absurd (false≢true h)
in-sound (val.field_then m v fs) no_fields name h = tt
in-sound (val.field_then m v fs) (field_then n t gs) name h =
    let a = and_left (bytes_eq m n && is_below (type_of_value v) t) (are_below (field_types fs) gs) h in
    let e : bytes_eq n name ≡ bytes_eq m name = ap (λ l. bytes_eq l name) (sym (same_bytes m n (and_left (bytes_eq m n) (is_below (type_of_value v) t) a))) in
    rw e (in-by (bytes_eq m name) t (type_in gs name) v (field_at (val.fields_of fs) name) (and_right (bytes_eq m n) (is_below (type_of_value v) t) a) (in-sound fs gs name (and_right (bytes_eq m n && is_below (type_of_value v) t) (are_below (field_types fs) gs) h)))

pub field-sound : (name : List ℕ) (s : Datatype) (x : Value) → Of s x → Sound Of (field name s) (meaning.field name x)
field-sound name Unknown x h = absurd (never-unknown x h)
field-sound name (Record gs) (val.Record fs) h = in-sound fs gs name (record-of fs (Record gs) h)
field-sound name (Record gs) (val.Int n) h = absurd (false≢true h)
field-sound name (Record gs) (val.Bool b) h = absurd (false≢true h)
field-sound name (Record gs) (val.Words xs) h = absurd (false≢true h)
field-sound name (Record gs) (val.Array vs) h = absurd (false≢true (array-of vs (Record gs) h))
field-sound name Int x h = tt
field-sound name Boolean x h = tt
field-sound name Words x h = tt
field-sound name (Array t) x h = tt
field-sound name General x h = tt

pub length_of-sound : (s : Datatype) (x : Value) → Of s x → Sound Of (length_of s) (meaning.length_of x)
length_of-sound Unknown x h = absurd (never-unknown x h)
length_of-sound Words (val.Words xs) h = exact-sound (pos (length (chars xs)))
length_of-sound Words (val.Int n) h = absurd (false≢true h)
length_of-sound Words (val.Bool b) h = absurd (false≢true h)
length_of-sound Words (val.Array vs) h = absurd (false≢true (array-of vs Words h))
length_of-sound Words (val.Record fs) h = absurd (false≢true (record-of fs Words h))
length_of-sound (Array t) (val.Array vs) h = exact-sound (pos (length (list_of vs)))
length_of-sound (Array t) (val.Int n) h = absurd (false≢true h)
length_of-sound (Array t) (val.Bool b) h = absurd (false≢true h)
length_of-sound (Array t) (val.Words xs) h = absurd (false≢true h)
length_of-sound (Array t) (val.Record fs) h = absurd (false≢true (record-of fs (Array t) h))
length_of-sound Int x h = tt
length_of-sound Boolean x h = tt
length_of-sound (Record fs) x h = tt
length_of-sound General x h = tt
