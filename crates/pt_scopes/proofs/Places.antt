-- Where in a list those elements stand that pass a test.
use Rattle.std.proofs.Common.{◌≡◌, ◌≤◌, ◌<◌, ◌+◌, ◌-◌, ℕ, zero, suc, List, [], ◌∷◌, ◌++◌, Bool, true, false, not, cond, Some, None, length, take, filter, refl, sym, ap, subst, ◌∙◌, arith}
use Rattle.std.proofs.lemmas.List.Sums.{sum_by-cons}
use Rattle.std.proofs.lemmas.Option.{none-some, same_Some}
use Rattle.std.specs.List.{count_by, slice_get}

-- the place of the element of this number among those that pass; past the end of the list, places go on
abbrev pub place : {X : Type 0} → (X → Bool) → List X → ℕ → ℕ
place p [] n = n
place p (x ∷ xs) zero = cond (p x) 0 (suc (place p xs zero))
place p (x ∷ xs) (suc n) = suc (cond (p x) (place p xs n) (place p xs (suc n)))

pub rises : {X : Type 0} (p : X → Bool) (xs : List X) (i j : ℕ) → i < j → place p xs i < place p xs j
rises p [] i j h = h
rises p (x ∷ xs) i zero h = absurd (omega arith)
rises p (x ∷ xs) zero (suc j) h = chosen (p x) (rises p xs zero (suc j) (omega arith))
  where
    chosen : (b : Bool) → place p xs zero < place p xs (suc j) → cond b 0 (suc (place p xs zero)) < suc (cond b (place p xs j) (place p xs (suc j)))
    chosen true k = omega arith
    chosen false k = omega (arith, k)
rises p (x ∷ xs) (suc i) (suc j) h = chosen (p x) (rises p xs i j (omega (arith, h))) (rises p xs (suc i) (suc j) h)
  where
    chosen : (b : Bool) → place p xs i < place p xs j → place p xs (suc i) < place p xs (suc j) → suc (cond b (place p xs i) (place p xs (suc i))) < suc (cond b (place p xs j) (place p xs (suc j)))
    chosen true k l = omega (arith, k)
    chosen false k l = omega (arith, l)

-- what passes stands at its place
pub filter-place : {X : Type 0} (p : X → Bool) (xs : List X) (n : ℕ) (s : X) → slice_get (filter p xs) n ≡ Some s → slice_get xs (place p xs n) ≡ Some s
filter-place p [] n s e = absurd (none-some s e)
filter-place p (x ∷ xs) zero s e = chosen (p x) (filter-place p xs zero s) e
  where
    chosen : (b : Bool) → (slice_get (filter p xs) 0 ≡ Some s → slice_get xs (place p xs zero) ≡ Some s) → slice_get (cond b (x ∷ filter p xs) (filter p xs)) 0 ≡ Some s → slice_get (x ∷ xs) (cond b 0 (suc (place p xs zero))) ≡ Some s
    chosen true rest f = f
    chosen false rest f = rest f
filter-place p (x ∷ xs) (suc n) s e = chosen (p x) (filter-place p xs n s) (filter-place p xs (suc n) s) e
  where
    chosen : (b : Bool) → (slice_get (filter p xs) n ≡ Some s → slice_get xs (place p xs n) ≡ Some s) → (slice_get (filter p xs) (suc n) ≡ Some s → slice_get xs (place p xs (suc n)) ≡ Some s) → slice_get (cond b (x ∷ filter p xs) (filter p xs)) (suc n) ≡ Some s → slice_get (x ∷ xs) (suc (cond b (place p xs n) (place p xs (suc n)))) ≡ Some s
    chosen true here next f = here f
    chosen false here next f = next f

place-yes : {X : Type 0} (p : X → Bool) (x : X) (xs : List X) (n : ℕ) → p x ≡ true → place p (x ∷ xs) (suc n) ≡ suc (place p xs n)
place-yes p x xs n e = ap (λ b. suc (cond b (place p xs n) (place p xs (suc n)))) e

place-no : {X : Type 0} (p : X → Bool) (x : X) (xs : List X) (n : ℕ) → p x ≡ false → place p (x ∷ xs) n ≡ suc (place p xs n)
place-no p x xs zero e = ap (λ b. cond b 0 (suc (place p xs zero))) e
place-no p x xs (suc n) e = ap (λ b. suc (cond b (place p xs n) (place p xs (suc n)))) e

count-cons : {X : Type 0} (p : X → Bool) (x : X) (xs : List X) → count_by p (x ∷ xs) ≡ cond (p x) 1 0 + count_by p xs
count-cons p x xs = sum_by-cons (λ y. cond (p y) 1 0) x xs

-- those before it that pass are its number among them
pub place-count : {X : Type 0} (p : X → Bool) (xs : List X) (o : ℕ) (s : X) → slice_get xs o ≡ Some s → p s ≡ true → place p xs (count_by p (take o xs)) ≡ o
place-count p [] o s e k = absurd (none-some s e)
place-count p (x ∷ xs) zero s e k = ap (λ b. cond b 0 (suc (place p xs zero))) (ap p (same_Some x s e) ∙ k)
place-count p (x ∷ xs) (suc o) s e k = chosen (p x) refl (place-count p xs o s e k)
  where
    chosen : (b : Bool) → p x ≡ b → place p xs (count_by p (take o xs)) ≡ o → place p (x ∷ xs) (count_by p (x ∷ take o xs)) ≡ suc o
    chosen true y rest =
        let counted : count_by p (x ∷ take o xs) ≡ suc (count_by p (take o xs)) = count-cons p x (take o xs) ∙ ap (λ b. cond b 1 0 + count_by p (take o xs)) y ∙ omega arith in
        ap (place p (x ∷ xs)) counted ∙ place-yes p x xs (count_by p (take o xs)) y ∙ ap suc rest
    chosen false y rest =
        let counted : count_by p (x ∷ take o xs) ≡ count_by p (take o xs) = count-cons p x (take o xs) ∙ ap (λ b. cond b 1 0 + count_by p (take o xs)) y ∙ omega arith in
        ap (place p (x ∷ xs)) counted ∙ place-no p x xs (count_by p (take o xs)) y ∙ ap suc rest

pub count-below : {X : Type 0} (p : X → Bool) (xs : List X) (o : ℕ) (s : X) → slice_get xs o ≡ Some s → p s ≡ true → count_by p (take o xs) < length (filter p xs)
count-below p [] o s e k = absurd (none-some s e)
count-below p (x ∷ xs) zero s e k = subst (λ b. 0 < length (cond b (x ∷ filter p xs) (filter p xs))) (sym (ap p (same_Some x s e) ∙ k)) (omega arith)
count-below p (x ∷ xs) (suc o) s e k = chosen (p x) refl (count-below p xs o s e k)
  where
    chosen : (b : Bool) → p x ≡ b → count_by p (take o xs) < length (filter p xs) → count_by p (x ∷ take o xs) < length (cond b (x ∷ filter p xs) (filter p xs))
    chosen true y rest =
        let counted = count-cons p x (take o xs) ∙ ap (λ b. cond b 1 0 + count_by p (take o xs)) y in
        omega (arith, counted, rest)
    chosen false y rest =
        let counted = count-cons p x (take o xs) ∙ ap (λ b. cond b 1 0 + count_by p (take o xs)) y in
        omega (arith, counted, rest)

-- those that pass and those that don't are all
pub counts : {X : Type 0} (p : X → Bool) (xs : List X) (o : ℕ) (s : X) → slice_get xs o ≡ Some s → count_by p (take o xs) + count_by (λ x. not (p x)) (take o xs) ≡ o
counts p [] o s e = absurd (none-some s e)
counts p (x ∷ xs) zero s e = refl
counts p (x ∷ xs) (suc o) s e = chosen (p x) refl (counts p xs o s e)
  where
    chosen : (b : Bool) → p x ≡ b → count_by p (take o xs) + count_by (λ y. not (p y)) (take o xs) ≡ o → count_by p (x ∷ take o xs) + count_by (λ y. not (p y)) (x ∷ take o xs) ≡ suc o
    chosen true y rest =
        let passing = count-cons p x (take o xs) ∙ ap (λ b. cond b 1 0 + count_by p (take o xs)) y in
        let others = count-cons (λ z. not (p z)) x (take o xs) ∙ ap (λ b. cond (not b) 1 0 + count_by (λ z. not (p z)) (take o xs)) y in
        omega (arith, passing, others, rest)
    chosen false y rest =
        let passing = count-cons p x (take o xs) ∙ ap (λ b. cond b 1 0 + count_by p (take o xs)) y in
        let others = count-cons (λ z. not (p z)) x (take o xs) ∙ ap (λ b. cond (not b) 1 0 + count_by (λ z. not (p z)) (take o xs)) y in
        omega (arith, passing, others, rest)
