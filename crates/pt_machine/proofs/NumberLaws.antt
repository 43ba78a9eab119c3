-- The numbers of names.
use Rattle.std.proofs.Common.{◌≡◌, ◌⊎◌, inl, inr, ℕ, zero, suc, ◌<◌, ◌+◌, List, [], ◌∷◌, length, Bool, true, false, Some, refl, ap, ◌∙◌, arith, if◌then◌else◌}
use Rattle.std.specs.Prelude.{bytes_eq, slice_get}
use Rattle.pt_datatypes.proofs.Order.{same_bytes}
use Rattle.pt_machine.specs.Numbers.{Numbers, no_numbers, with_number, with_numbers, number_of}

-- a name that has a number by these stands at that number, or had it before
pub record IsThere (k : ℕ) (names : List (List ℕ)) (name : List ℕ) (i : ℕ) : Type 0 where
  pub place : ℕ
  pub is : i ≡ k + place
  pub at : slice_get names place ≡ Some name

next-there : (k : ℕ) (n : List ℕ) (names : List (List ℕ)) (name : List ℕ) (i : ℕ) → IsThere (suc k) names name i → IsThere k (n ∷ names) name i
next-there k n names name i t = record { place = suc t.place; is = omega (arith, t.is); at = t.at }

some-same : {A : Type 0} (x y : A) → Some x ≡ Some y → x ≡ y
some-same x y e = cc

there : (k : ℕ) (names : List (List ℕ)) (numbers : Numbers) (name : List ℕ) (i : ℕ) → with_numbers k names numbers name ≡ Some i → (numbers name ≡ Some i) ⊎ IsThere k names name i
there k [] numbers name i e = inl e
there k (n ∷ names) numbers name i e = by_rest (there (suc k) names (with_number n k numbers) name i e)
  where
    by_test : (b : Bool) → bytes_eq n name ≡ b → (if b then Some k else numbers name) ≡ Some i → (numbers name ≡ Some i) ⊎ IsThere k (n ∷ names) name i
    by_test true same h = inr (record { place = 0; is = omega (arith, some-same k i h); at = ap (λ (m : List ℕ). Some m) (same_bytes n name same) })
    by_test false other h = inl h

    by_rest : (with_number n k numbers name ≡ Some i) ⊎ IsThere (suc k) names name i → (numbers name ≡ Some i) ⊎ IsThere k (n ∷ names) name i
    by_rest (inl h) = by_test (bytes_eq n name) refl h
    by_rest (inr t) = inr (next-there k n names name i t)

-- a name with a number stands there
pub number-there : (names : List (List ℕ)) (name : List ℕ) (i : ℕ) → number_of names name ≡ Some i → slice_get names i ≡ Some name
number-there names name i e = by_cause (there 0 names no_numbers name i e)
  where
    by_cause : (no_numbers name ≡ Some i) ⊎ IsThere 0 names name i → slice_get names i ≡ Some name
    by_cause (inl h) = absurd (cc)
    by_cause (inr t) = let same : i ≡ t.place = omega (arith, t.is) in ap (λ j. slice_get names j) same ∙ t.at

pub got-short : {A : Type 0} (xs : List A) (i : ℕ) (x : A) → slice_get xs i ≡ Some x → i < length xs
got-short [] i x e = absurd (cc)
got-short (y ∷ xs) zero x e = omega arith
got-short (y ∷ xs) (suc i) x e = let h = got-short xs i x e in omega (arith, h)

pub number-short : (names : List (List ℕ)) (name : List ℕ) (i : ℕ) → number_of names name ≡ Some i → i < length names
number-short names name i e = got-short names i name (number-there names name i e)
