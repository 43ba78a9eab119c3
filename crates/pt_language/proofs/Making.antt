-- Which names make a record.
use Rattle.std.proofs.Common.{◌≡◌, ℕ, suc, ◌<◌, ◌≤◌, Bool, true, false, cond, ◌&&◌, ◌||◌, List, [], ◌∷◌, length, get_or, count_by, All, AllPairs, Contains, IsPermutation, refl, sym, ap, ◌∙◌, arith}
use Rattle.std.specs.Prelude.{nat_le, not, ◌==◌}
use Rattle.std.specs.List.{list_all}
use Rattle.std.specs.Str.{bytes_eq}
use Rattle.std.specs.Char.{is_ascii_alphanumeric}
use Rattle.std.proofs.lemmas.Bool.{leb-true, le-leb}
use Rattle.std.proofs.lemmas.List.Folds.{list_all_at}
use Rattle.std.proofs.lemmas.List.Sorted.{IsPermutation-sym, All-permutation, length_permutation, sum_by-IsPermutation}
use Rattle.std.proofs.lemmas.List.Sums.{sum_by-cons, AllPass-from_list_all, list_all-from_AllPass}
use Rattle.pt_value.specs.Name.{IsName, HasNameForm, is_reserved}
use Rattle.pt_value.specs.Record.{IsBelow, IsRepeated}
use Rattle.pt_value.proofs.Names.{bytes_eq-differ, IsBelow-trans, IsBelow-differ}
use Rattle.pt_datatypes.specs.RecordType.{AreRecordNames}
use Rattle.pt_datatypes.proofs.Fields.{and_left, and_right, and_both}
use Rattle.pt_datatypes.proofs.Order.{same_bytes}
use Rattle.pt_language.specs.RecordOf.{has_name_form, is_name, differ, make_record}

abbrev continues : ℕ → Bool
continues d = is_ascii_alphanumeric d || d == 95

false_unless : (b : Bool) → (b ≡ true → ⊥) → b ≡ false
false_unless true h = absurd (h refl)
false_unless false h = refl

-- ---- names

form-is : (n : List ℕ) → has_name_form n ≡ true → HasNameForm n
form-is [] e = let b : ⊥ = cc in absurd b
form-is (c ∷ cs) e = (and_left _ (list_all continues cs) e, AllPass-from_list_all continues cs (and_right _ (list_all continues cs) e))

is-form : (n : List ℕ) → HasNameForm n → has_name_form n ≡ true
is-form [] h = absurd h
is-form (c ∷ cs) h = and_both _ (list_all continues cs) h.0 (list_all-from_AllPass continues cs h.1)

not-is : (b : Bool) → not b ≡ true → b ≡ false
not-is true e = cc
not-is false e = refl

is_name-is : (n : List ℕ) → is_name n ≡ true → IsName n
is_name-is n e =
    let front = and_left (has_name_form n && nat_le (length n) 64) (not (is_reserved n)) e in
    record { form = form-is n (and_left (has_name_form n) (nat_le (length n) 64) front); short = leb-true (length n) 64 (and_right (has_name_form n) (nat_le (length n) 64) front); free = not-is (is_reserved n) (and_right (has_name_form n && nat_le (length n) 64) (not (is_reserved n)) e) }

IsName-is : (n : List ℕ) → IsName n → is_name n ≡ true
IsName-is n h = and_both (has_name_form n && nat_le (length n) 64) (not (is_reserved n)) (and_both (has_name_form n) (nat_le (length n) 64) (is-form n h.form) (le-leb (length n) 64 h.short)) (ap not h.free)

-- ---- names that ascend stand there once

abbrev one_if : Bool → ℕ
one_if b = cond b 1 0

abbrev IsOver : List ℕ → List (List ℕ) → Type 0
IsOver n [] = Unit {0}
IsOver n (m ∷ ms) = IsBelow n m × IsOver n ms

abbrev Rises : List (List ℕ) → Type 0
Rises [] = Unit {0}
Rises (n ∷ ns) = IsOver n ns × Rises ns

IsOver-each : (n : List ℕ) (ms : List (List ℕ)) → ((k : ℕ) (d : List ℕ) → k < length ms → IsBelow n (get_or ms k d)) → IsOver n ms
IsOver-each n [] h = tt
IsOver-each n (m ∷ ms) h = (h 0 [] (omega arith), IsOver-each n ms (λ k d short. h (suc k) d (omega arith)))

Rises-each : (ns : List (List ℕ)) → AllPairs IsBelow ns → Rises ns
Rises-each [] h = tt
Rises-each (n ∷ ns) h = (IsOver-each n ns (λ k d short. h 0 (suc k) d (omega arith) (omega arith)), Rises-each ns (λ i j d lt short. h (suc i) (suc j) d (omega arith) (omega arith)))

IsOver-less : (m n : List ℕ) (ns : List (List ℕ)) → IsBelow m n → IsOver n ns → IsOver m ns
IsOver-less m n [] e h = tt
IsOver-less m n (l ∷ ls) e h = (IsBelow-trans m n l e h.0, IsOver-less m n ls e h.1)

none-over : (n : List ℕ) (ns : List (List ℕ)) → IsOver n ns → count_by (bytes_eq n) ns ≡ 0
none-over n [] h = refl
none-over n (m ∷ ms) h =
    let e : one_if (bytes_eq n m) ≡ 0 = ap one_if (bytes_eq-differ n m (IsBelow-differ n m h.0)) in
    omega (arith, sum_by-cons (λ l. one_if (bytes_eq n l)) m ms, e, none-over n ms h.1)

once-by : (n m : List ℕ) (ms : List (List ℕ)) (b : Bool) → bytes_eq n m ≡ b → IsOver m ms → count_by (bytes_eq n) ms ≤ 1 → count_by (bytes_eq n) (m ∷ ms) ≤ 1
once-by n m ms true e h le =
    let none : count_by (bytes_eq n) ms ≡ 0 = ap (λ l. count_by (bytes_eq l) ms) (same_bytes n m e) ∙ none-over m ms h in
    let one : one_if (bytes_eq n m) ≡ 1 = ap one_if e in
    omega (arith, sum_by-cons (λ l. one_if (bytes_eq n l)) m ms, none, one)
once-by n m ms false e h le =
    let no : one_if (bytes_eq n m) ≡ 0 = ap one_if e in
    omega (arith, sum_by-cons (λ l. one_if (bytes_eq n l)) m ms, no, le)

once : (n : List ℕ) (ns : List (List ℕ)) → Rises ns → count_by (bytes_eq n) ns ≤ 1
once n [] h = omega arith
once n (m ∷ ms) h = once-by n m ms (bytes_eq n m) refl h.0 (once n ms h.1)

-- ---- names that make a record

make-by : (ns : List (List ℕ)) → 0 < length ns → list_all is_name ns ≡ true → differ ns ≡ true → make_record ns ≡ true
make-by [] some names once = absurd (omega arith)
make-by (n ∷ ns) some names once = and_both (list_all is_name (n ∷ ns)) (differ (n ∷ ns)) names once

-- the names of a record type, in whichever order
pub make_record-lawful : (ns ms : List (List ℕ)) → IsPermutation ns ms → AreRecordNames ms → make_record ns ≡ true
make_record-lawful ns ms moved lawful =
    let long = length_permutation ns ms moved in
    let named : All IsName ns = All-permutation IsName ms ns (IsPermutation-sym ns ms moved) lawful.named in
    let rises = Rises-each ms lawful.ascending in
    let single : (n : List ℕ) → count_by (bytes_eq n) ns ≤ 1 = λ n. omega (arith, sum_by-IsPermutation (λ m. one_if (bytes_eq n m)) ns ms moved, once n ms rises) in
    make-by ns (omega (arith, long, lawful.some))
    (list_all-from_AllPass is_name ns (λ k d short. IsName-is (get_or ns k d) (named k d short)))
    (list_all-from_AllPass (λ n. nat_le (count_by (bytes_eq n) ns) 1) ns (λ k d short. le-leb (count_by (bytes_eq (get_or ns k d)) ns) 1 (single (get_or ns k d))))

make-false : (ns : List (List ℕ)) → list_all is_name ns && differ ns ≡ false → make_record ns ≡ false
make-false [] e = refl
make-false (n ∷ ns) e = e

and-false_left : (p q : Bool) → p ≡ false → p && q ≡ false
and-false_left p q e = rw e refl

and-false_right : (p q : Bool) → q ≡ false → p && q ≡ false
and-false_right true q e = e
and-false_right false q e = refl

-- a text that is no name
pub make_record-no_name : (ns : List (List ℕ)) (n : List ℕ) → Contains ns n → (IsName n → ⊥) → make_record ns ≡ false
make_record-no_name ns n there none =
    let no : is_name (get_or ns there.0 n) ≡ false = ap is_name there.2 ∙ false_unless (is_name n) (λ e. none (is_name-is n e)) in
    make-false ns (and-false_left (list_all is_name ns) (differ ns) (list_all_at is_name ns there.0 n there.1 no))

-- a name that stands there twice stands there
found-by : (n m : List ℕ) (q : List ℕ → Bool) (ms : List (List ℕ)) (b : Bool) → bytes_eq n m ≡ b → q n ≡ false → 0 < count_by (bytes_eq n) (m ∷ ms) → (0 < count_by (bytes_eq n) ms → list_all q ms ≡ false) → list_all q (m ∷ ms) ≡ false
found-by n m q ms true e fails h rest = and-false_left (q m) (list_all q ms) (sym (ap q (same_bytes n m e)) ∙ fails)
found-by n m q ms false e fails h rest =
    let zero' : one_if (bytes_eq n m) ≡ 0 = ap one_if e in
    and-false_right (q m) (list_all q ms) (rest (omega (arith, sum_by-cons (λ l. one_if (bytes_eq n l)) m ms, zero', h)))

found : (n : List ℕ) (q : List ℕ → Bool) (ms : List (List ℕ)) → q n ≡ false → 0 < count_by (bytes_eq n) ms → list_all q ms ≡ false
found n q [] fails h = absurd (omega arith)
found n q (m ∷ ms) fails h = found-by n m q ms (bytes_eq n m) refl fails h (found n q ms fails)

pub make_record-repeated : (ns : List (List ℕ)) (n : List ℕ) → IsRepeated ns n → make_record ns ≡ false
make_record-repeated ns n h =
    let no : nat_le (count_by (bytes_eq n) ns) 1 ≡ false = false_unless _ (λ e. let le = leb-true (count_by (bytes_eq n) ns) 1 e in absurd (omega arith)) in
    make-false ns (and-false_right (list_all is_name ns) (differ ns) (found n (λ m. nat_le (count_by (bytes_eq m) ns) 1) ns no (omega (arith, h))))
