-- Fields in the order of their names: a permutation that ascends is what inserting them one by one makes.
use Rattle.std.proofs.Common.{◌≡◌, ℕ, suc, ◌+◌, ◌<◌, Bool, true, false, cond, ◌&&◌, if◌then◌else◌, List, [], ◌∷◌, length, get_or, sum_by, count_by, AllPairs, IsPermutation, refl, sym, ap, subst, ◌∙◌, arith, is_lt, Result, Ok, Err, IfErr, ◌⊎◌, inr}
use Rattle.std.specs.Str.{bytes_eq}
use Rattle.std.specs.Ordering.{nat_cmp, ordering_reverse}
use Rattle.std.specs.Cmp.Lexicographic.{slice_cmp, nat_list_cmp_total}
use Rattle.std.specs.declared.cmp.Ordering.{Ordering}
use Rattle.std.specs.declared.cmp.Ordering.TheVariants.{Less, Equal, Greater}
use Rattle.std.proofs.lemmas.List.Sorted.{sum_by-IsPermutation}
use Rattle.std.proofs.lemmas.List.Sums.{sum_by-cons}
use Rattle.pt_value.specs.Value.{Value, Record, named_of}
use Rattle.pt_value.specs.Record.{IsBelow, IsRecord, names}
use Rattle.pt_value.proofs.Names.{bytes_eq-same, bytes_eq-differ, Equal-same, IsBelow-trans, IsBelow-differ}
use Rattle.pt_language.specs.Same.{is_same, is_same-decides}
use Rattle.pt_language.specs.RecordOf.{is_below, put, by_name, make_record}
use Rattle.pt_language.specs.Outcome.{Outcome, Gives, Stops, Wrong, and_then}
use Rattle.pt_language.specs.Meaning.{within, recorded}
use Rattle.pt_language.specs.declared.eval_fault.EvalFault.{EvalFault}
use Rattle.pt_language.specs.declared.eval_fault.EvalFault.TheVariants.{Memory}

abbrev Entry : Type 0
Entry = List ℕ × Value

-- the order of names
Less-by : (r : Ordering) → is_lt r ≡ true → r ≡ Less
Less-by Less e = refl
Less-by Equal e = cc
Less-by Greater e = cc

below-is : (m n : List ℕ) → is_below m n ≡ true → IsBelow m n
below-is m n e = Less-by (slice_cmp nat_cmp m n) e

below-trans : (l m n : List ℕ) → is_below l m ≡ true → is_below m n ≡ true → is_below l n ≡ true
below-trans l m n d e = ap is_lt (IsBelow-trans l m n (below-is l m d) (below-is m n e))

below-asym : (m n : List ℕ) → is_below m n ≡ true → is_below n m ≡ false
below-asym m n e = ap is_lt (nat_list_cmp_total.antisymm n m ∙ ap ordering_reverse (below-is m n e))

below-differ : (m n : List ℕ) → is_below m n ≡ true → bytes_eq m n ≡ false
below-differ m n e = bytes_eq-differ m n (IsBelow-differ m n (below-is m n e))

below-differ_back : (m n : List ℕ) → is_below n m ≡ true → bytes_eq m n ≡ false
below-differ_back m n e = bytes_eq-differ m n (λ same. IsBelow-differ n m (below-is n m e) (sym same))

neither-by : (m n : List ℕ) (r : Ordering) → slice_cmp nat_cmp m n ≡ r → is_below m n ≡ false → is_below n m ≡ false → m ≡ n
neither-by m n Equal e h k = Equal-same m n e
neither-by m n Less e h k = let b : true ≡ false = ap is_lt (sym e) ∙ h in cc
neither-by m n Greater e h k = let b : true ≡ false = ap is_lt (ap ordering_reverse (sym e) ∙ sym (nat_list_cmp_total.antisymm n m)) ∙ k in cc

-- counts of entries
abbrev one_if : Bool → ℕ
one_if b = cond b 1 0

count-no : (p : Entry → Bool) (z : Entry) (zs : List Entry) → p z ≡ false → count_by p (z ∷ zs) ≡ count_by p zs
count-no p z zs e = let h = sum_by-cons (λ y. cond (p y) 1 0) z zs in let k : one_if (p z) ≡ 0 = ap one_if e in omega (arith, h, k)

count-yes : (p : Entry → Bool) (z : Entry) (zs : List Entry) → p z ≡ true → 0 < count_by p (z ∷ zs)
count-yes p z zs e = let h = sum_by-cons (λ y. cond (p y) 1 0) z zs in let k : one_if (p z) ≡ 1 = ap one_if e in omega (arith, h, k)

-- no name below n, and each name above n
abbrev IsAbove : List ℕ → List Entry → Type 0
IsAbove n [] = Unit {0}
IsAbove n (f ∷ fs) = (is_below f.0 n ≡ false) × IsAbove n fs

abbrev IsOver : List ℕ → List Entry → Type 0
IsOver n [] = Unit {0}
IsOver n (f ∷ fs) = (is_below n f.0 ≡ true) × IsOver n fs

abbrev Ascends : List Entry → Type 0
Ascends [] = Unit {0}
Ascends (f ∷ fs) = IsAbove f.0 fs × Ascends fs

abbrev Rises : List Entry → Type 0
Rises [] = Unit {0}
Rises (f ∷ fs) = IsOver f.0 fs × Rises fs

zero-over : (p : Entry → Bool) (n : List ℕ) → ((z : Entry) → is_below n z.0 ≡ true → p z ≡ false) → (zs : List Entry) → IsOver n zs → count_by p zs ≡ 0
zero-over p n none [] h = refl
zero-over p n none (z ∷ zs) h = count-no p z zs (none z h.0) ∙ zero-over p n none zs h.1

zero-above : (p : Entry → Bool) (n : List ℕ) → ((z : Entry) → is_below z.0 n ≡ false → p z ≡ false) → (zs : List Entry) → IsAbove n zs → count_by p zs ≡ 0
zero-above p n none [] h = refl
zero-above p n none (z ∷ zs) h = count-no p z zs (none z h.0) ∙ zero-above p n none zs h.1

-- what is inserted keeps the order and the sums
put-above : (n : List ℕ) (x y : Entry) (ys : List Entry) (b : Bool) → is_below x.0 n ≡ false → IsAbove n (y ∷ ys) → IsAbove n (put x ys) → IsAbove n (if b then x ∷ y ∷ ys else y ∷ put x ys)
put-above n x y ys true e h k = (e, h)
put-above n x y ys false e h k = (h.0, k)

IsAbove-put : (n : List ℕ) (x : Entry) (xs : List Entry) → is_below x.0 n ≡ false → IsAbove n xs → IsAbove n (put x xs)
IsAbove-put n x [] e h = (e, tt)
IsAbove-put n x (y ∷ ys) e h = put-above n x y ys (is_below x.0 y.0) e h (IsAbove-put n x ys e h.1)

not_below : (x y z : List ℕ) (b : Bool) → is_below z x ≡ b → is_below x y ≡ true → is_below z y ≡ false → b ≡ false
not_below x y z true e less free = let t : true ≡ false = sym (below-trans z x y e less) ∙ free in cc
not_below x y z false e less free = refl

IsAbove-less : (x y : List ℕ) (zs : List Entry) → is_below x y ≡ true → IsAbove y zs → IsAbove x zs
IsAbove-less x y [] less h = tt
IsAbove-less x y (z ∷ zs) less h = (not_below x y z.0 (is_below z.0 x) refl less h.0, IsAbove-less x y zs less h.1)

put-ascends : (x y : Entry) (ys : List Entry) (b : Bool) → is_below x.0 y.0 ≡ b → Ascends (y ∷ ys) → Ascends (put x ys) → Ascends (if b then x ∷ y ∷ ys else y ∷ put x ys)
put-ascends x y ys true e h k = ((below-asym x.0 y.0 e, IsAbove-less x.0 y.0 ys e h.0), h)
put-ascends x y ys false e h k = (IsAbove-put y.0 x ys e h.0, k)

Ascends-put : (x : Entry) (xs : List Entry) → Ascends xs → Ascends (put x xs)
Ascends-put x [] h = (tt, tt)
Ascends-put x (y ∷ ys) h = put-ascends x y ys (is_below x.0 y.0) refl h (Ascends-put x ys h.1)

pub Ascends-by_name : (xs : List Entry) → Ascends (by_name xs)
Ascends-by_name [] = tt
Ascends-by_name (x ∷ xs) = Ascends-put x (by_name xs) (Ascends-by_name xs)

put-sums : (f : Entry → ℕ) (x y : Entry) (ys : List Entry) (b : Bool) → sum_by f (put x ys) ≡ f x + sum_by f ys → sum_by f (if b then x ∷ y ∷ ys else y ∷ put x ys) ≡ f x + sum_by f (y ∷ ys)
put-sums f x y ys true e = sum_by-cons f x (y ∷ ys)
put-sums f x y ys false e = omega (arith, sum_by-cons f y (put x ys), sum_by-cons f y ys, e)

sum_by-put : (f : Entry → ℕ) (x : Entry) (xs : List Entry) → sum_by f (put x xs) ≡ f x + sum_by f xs
sum_by-put f x [] = sum_by-cons f x []
sum_by-put f x (y ∷ ys) = put-sums f x y ys (is_below x.0 y.0) (sum_by-put f x ys)

pub sum_by-by_name : (f : Entry → ℕ) (xs : List Entry) → sum_by f (by_name xs) ≡ sum_by f xs
sum_by-by_name f [] = refl
sum_by-by_name f (x ∷ xs) = omega (arith, sum_by-put f x (by_name xs), sum_by-by_name f xs, sum_by-cons f x xs)

abbrev has_name : List ℕ → Entry → Bool
has_name n z = bytes_eq n z.0

abbrev is_entry : Entry → Entry → Bool
is_entry x z = bytes_eq x.0 z.0 && is_same x.1 z.1

abbrev SameSums : List Entry → List Entry → Type 0
SameSums xs ys = (f : Entry → ℕ) → sum_by f xs ≡ sum_by f ys

and_false : (p q : Bool) → p ≡ false → p && q ≡ false
and_false p q e = rw e refl

-- the least entries of both have one name
same_name : (x y : Entry) (xs ys : List Entry) → IsAbove x.0 xs → IsOver y.0 ys → SameSums (x ∷ xs) (y ∷ ys) → (b c : Bool) → is_below x.0 y.0 ≡ b → is_below y.0 x.0 ≡ c → x.0 ≡ y.0
same_name x y xs ys above over same true c e d =
    let p = has_name x.0 in
    let there = count-yes p x xs (bytes_eq-same x.0 x.0 refl) in
    let not_there = count-no p y ys (below-differ x.0 y.0 e) in
    let not_later = zero-over p y.0 (λ z h. below-differ x.0 z.0 (below-trans x.0 y.0 z.0 e h)) ys over in
    absurd (omega (arith, there, not_there, not_later, same (λ z. cond (p z) 1 0)))
same_name x y xs ys above over same false true e d =
    let p = has_name y.0 in
    let there = count-yes p y ys (bytes_eq-same y.0 y.0 refl) in
    let not_there = count-no p x xs (below-differ y.0 x.0 d) in
    let not_later = zero-above p x.0 (λ z h. bytes_eq-differ y.0 z.0 (λ same. let t : true ≡ false = sym d ∙ ap (λ n. is_below n x.0) same ∙ h in cc)) xs above in
    absurd (omega (arith, there, not_there, not_later, same (λ z. cond (p z) 1 0)))
same_name x y xs ys above over same false false e d = neither-by x.0 y.0 (slice_cmp nat_cmp x.0 y.0) refl e d

-- and one value
same_value : (x y : Entry) (xs ys : List Entry) → IsOver y.0 ys → SameSums (x ∷ xs) (y ∷ ys) → x.0 ≡ y.0 → (b : Bool) → is_same x.1 y.1 ≡ b → x.1 ≡ y.1
same_value x y xs ys over same name true e = (is_same-decides x.1 y.1).0 e
same_value x y xs ys over same name false e =
    let p = is_entry x in
    let itself : is_entry x x ≡ true = rw (bytes_eq-same x.0 x.0 refl) ((is_same-decides x.1 x.1).1 refl) in
    let there = count-yes p x xs itself in
    let other : is_entry x y ≡ false = rw (bytes_eq-same x.0 y.0 name) e in
    let not_there = count-no p y ys other in
    let not_later = zero-over p y.0 (λ z h. and_false (bytes_eq x.0 z.0) (is_same x.1 z.1) (below-differ x.0 z.0 (subst (λ n. is_below n z.0 ≡ true) (sym name) h))) ys over in
    absurd (omega (arith, there, not_there, not_later, same (λ z. cond (p z) 1 0)))

pub same_lists : (xs ys : List Entry) → Ascends xs → Rises ys → SameSums xs ys → xs ≡ ys
same_lists [] [] a r same = refl
same_lists [] (y ∷ ys) a r same = absurd (omega (arith, same (λ z. 1), sum_by-cons (λ (z : Entry). 1) y ys))
same_lists (x ∷ xs) [] a r same = absurd (omega (arith, same (λ z. 1), sum_by-cons (λ (z : Entry). 1) x xs))
same_lists (x ∷ xs) (y ∷ ys) a r same =
    let name = same_name x y xs ys a.0 r.0 same (is_below x.0 y.0) (is_below y.0 x.0) refl refl in
    let value = same_value x y xs ys r.0 same name (is_same x.1 y.1) refl in
    let entry : x ≡ y = λ i. (name i, value i) in
    let rest = same_lists xs ys a.1 r.1 (λ f. omega (arith, same f, sum_by-cons f x xs, sum_by-cons f y ys, ap f entry)) in
    λ i. entry i ∷ rest i

-- the fields of a record rise
IsOver-each : (n : List ℕ) (fs : List Entry) → ((k : ℕ) (d : List ℕ) → k < length (names fs) → IsBelow n (get_or (names fs) k d)) → IsOver n fs
IsOver-each n [] h = tt
IsOver-each n (f ∷ fs) h = (ap is_lt (h 0 [] (omega arith)), IsOver-each n fs (λ k d short. h (suc k) d (omega arith)))

Rises-each : (fs : List Entry) → AllPairs IsBelow (names fs) → Rises fs
Rises-each [] h = tt
Rises-each (f ∷ fs) h = (IsOver-each f.0 fs (λ k d short. h 0 (suc k) d (omega arith) (omega arith)), Rises-each fs (λ i j d lt short. h (suc i) (suc j) d (omega arith) (omega arith)))

-- a record whose fields are a permutation of these is made by inserting these one by one
pub by_name-record : (ps fs : List Entry) → IsPermutation ps fs → IsRecord fs → by_name ps ≡ fs
by_name-record ps fs moved lawful = same_lists (by_name ps) fs (Ascends-by_name ps) (Rises-each fs lawful.ascending) (λ f. sum_by-by_name f ps ∙ sym (sum_by-IsPermutation f ps fs moved))

made-by : {A : Type 0} (b : Bool) (v : A) (go : A → Outcome A) → (and_then (if b then Gives v else Wrong) go ≡ Wrong → ⊥) → and_then (if b then Gives v else Wrong) go ≡ go v
made-by true v go right = refl
made-by false v go right = absurd (right refl)

pub recorded-is : (ps fs : List Entry) → (recorded ps ≡ Wrong → ⊥) → IsPermutation ps fs → IsRecord fs → recorded ps ≡ within (Record (named_of fs))
recorded-is ps fs right moved lawful = made-by (make_record (names ps)) (Record (named_of (by_name ps))) within right ∙ ap (λ gs. within (Record (named_of gs))) (by_name-record ps fs moved lawful)

pub weaken-err : {T : Type 0} (r : Result T EvalFault) (o : Outcome Value) → IfErr r (λ f. o ≡ Stops f) → IfErr r (λ f. (f ≡ Memory) ⊎ (o ≡ Stops f))
weaken-err (Ok t) o h = h
weaken-err (Err f) o h = inr h
