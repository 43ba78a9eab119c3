-- Flags, numbers and channels of which one is changed.
use Rattle.std.proofs.Common.{◌≡◌, ◌⊎◌, inl, inr, ℕ, zero, suc, ◌<◌, ◌≤◌, List, [], ◌∷◌, ◌++◌, Bool, true, false, nat_eq, length, set, drop, get_or, refl, sym, ap, arith}
use Rattle.std.proofs.lemmas.Bool.{false≢true}
use Rattle.std.proofs.lemmas.Bool.Decides.{nat_tests}
use Rattle.pt_meaning.specs.Streams.{Streams}
use Rattle.pt_recv.specs.Lines.{list_at}
use Rattle.pt_value.specs.declared.token.Token.{Token}

-- flags of which one is cleared or set
pub cleared : (F : List Bool) (i j : ℕ) → get_or (set F i false) j false ≡ true → (nat_eq i j ≡ false) × (get_or F j false ≡ true)
cleared [] i j e = absurd (false≢true e)
cleared (b ∷ F) zero zero e = absurd (false≢true e)
cleared (b ∷ F) zero (suc j) e = (grind (arith, nat_tests), e)
cleared (b ∷ F) (suc i) zero e = (grind (arith, nat_tests), e)
cleared (b ∷ F) (suc i) (suc j) e = let r = cleared F i j e in (suc-other i j r.0, r.1)
  where
    suc-other : (i j : ℕ) → nat_eq i j ≡ false → nat_eq (suc i) (suc j) ≡ false
    suc-other i j h = grind (arith, nat_tests)

pub still-set : (F : List Bool) (i j : ℕ) → nat_eq i j ≡ false → get_or F j false ≡ true → get_or (set F i false) j false ≡ true
still-set [] i j h e = e
still-set (b ∷ F) zero zero h e = absurd (false≢true (sym h))
still-set (b ∷ F) zero (suc j) h e = e
still-set (b ∷ F) (suc i) zero h e = e
still-set (b ∷ F) (suc i) (suc j) h e = still-set F i j (suc-less i j h) e
  where
    suc-less : (i j : ℕ) → nat_eq (suc i) (suc j) ≡ false → nat_eq i j ≡ false
    suc-less i j h = grind (arith, nat_tests)

pub set-or-same : (F : List Bool) (i j : ℕ) → get_or (set F i true) j false ≡ true → (i ≡ j) ⊎ (get_or F j false ≡ true)
set-or-same [] i j e = inr e
set-or-same (b ∷ F) zero zero e = inl refl
set-or-same (b ∷ F) zero (suc j) e = inr e
set-or-same (b ∷ F) (suc i) zero e = inr e
set-or-same (b ∷ F) (suc i) (suc j) e = by (set-or-same F i j e)
  where
    by : (i ≡ j) ⊎ (get_or F j false ≡ true) → (suc i ≡ suc j) ⊎ (get_or F j false ≡ true)
    by (inl q) = inl (ap (λ k. suc k) q)
    by (inr q) = inr q

pub set-keeps : (F : List Bool) (i j : ℕ) → get_or F j false ≡ true → get_or (set F i true) j false ≡ true
set-keeps [] i j e = e
set-keeps (b ∷ F) zero zero e = refl
set-keeps (b ∷ F) zero (suc j) e = e
set-keeps (b ∷ F) (suc i) zero e = e
set-keeps (b ∷ F) (suc i) (suc j) e = set-keeps F i j e

pub set-now : (F : List Bool) (i : ℕ) → i < length F → get_or (set F i true) i false ≡ true
set-now [] i h = absurd (omega (arith, h))
set-now (b ∷ F) zero h = refl
set-now (b ∷ F) (suc i) h = set-now F i (omega (arith, h))

-- channels of which one has another list
pub list-else : (L : Streams Token) (X : List Token) (c d : ℕ) → nat_eq c d ≡ false → list_at (set L c X) d ≡ list_at L d
list-else [] X c d h = refl
list-else (xs ∷ L) X zero zero h = absurd (false≢true (sym h))
list-else (xs ∷ L) X zero (suc d) h = refl
list-else (xs ∷ L) X (suc c) zero h = refl
list-else (xs ∷ L) X (suc c) (suc d) h = list-else L X c d (suc-less c d h)
  where
    suc-less : (i j : ℕ) → nat_eq (suc i) (suc j) ≡ false → nat_eq i j ≡ false
    suc-less i j h = grind (arith, nat_tests)

pub list-longer : (L : Streams Token) (X : List Token) (c d : ℕ) → length (list_at L c) ≤ length X → length (list_at L d) ≤ length (list_at (set L c X) d)
list-longer [] X c d h = omega arith
list-longer (xs ∷ L) X zero zero h = h
list-longer (xs ∷ L) X zero (suc d) h = omega arith
list-longer (xs ∷ L) X (suc c) zero h = omega arith
list-longer (xs ∷ L) X (suc c) (suc d) h = list-longer L X c d h

pub list-shorter : (L : Streams Token) (X : List Token) (c d : ℕ) → length X ≤ length (list_at L c) → length (list_at (set L c X) d) ≤ length (list_at L d)
list-shorter [] X c d h = omega arith
list-shorter (xs ∷ L) X zero zero h = h
list-shorter (xs ∷ L) X zero (suc d) h = omega arith
list-shorter (xs ∷ L) X (suc c) zero h = omega arith
list-shorter (xs ∷ L) X (suc c) (suc d) h = list-shorter L X c d h

pub number-else : (K : List ℕ) (x c d : ℕ) → nat_eq c d ≡ false → get_or (set K c x) d 0 ≡ get_or K d 0
number-else [] x c d h = refl
number-else (k ∷ K) x zero zero h = absurd (false≢true (sym h))
number-else (k ∷ K) x zero (suc d) h = refl
number-else (k ∷ K) x (suc c) zero h = refl
number-else (k ∷ K) x (suc c) (suc d) h = number-else K x c d (suc-less c d h)
  where
    suc-less : (i j : ℕ) → nat_eq (suc i) (suc j) ≡ false → nat_eq i j ≡ false
    suc-less i j h = grind (arith, nat_tests)

pub same-number : (i j : ℕ) → nat_eq i j ≡ true → i ≡ j
same-number i j h = grind (arith, nat_tests)

pub longer-end : {A : Type 0} (xs : List A) (x : A) → length xs ≤ length (xs ++ (x ∷ []))
longer-end [] x = omega arith
longer-end (y ∷ xs) x = let r = longer-end xs x in omega (arith, r)

pub shorter-front : {A : Type 0} (xs : List A) → length (drop 1 xs) ≤ length xs
shorter-front [] = omega arith
shorter-front (x ∷ xs) = omega arith
