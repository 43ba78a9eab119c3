-- A list of images where one element and the function change.
use Rattle.std.proofs.Common.{◌≡◌, ◌≢◌, ℕ, zero, suc, ◌+◌, ◌<◌, List, [], ◌∷◌, ◌++◌, length, get_or, set, map, refl, ap, ap₂, arith, length-set}
use Rattle.std.proofs.lemmas.List.{get_or-set_same, get_or-set_other}
use Rattle.std.proofs.lemmas.Bool.Decides.{eqb_tells}
use Rattle.std.proofs.Common.{◌⊎◌, inl, inr, eqb, true, false}

pub map-same_each : {A B : Type 0} (F G : A → B) (xs : List A) (d : A) → ((r : ℕ) → r < length xs → G (get_or xs r d) ≡ F (get_or xs r d)) → map G xs ≡ map F xs
map-same_each F G [] d each = refl
map-same_each F G (x ∷ xs) d each = ap₂ (λ v w. v ∷ w) (each 0 (omega arith)) (map-same_each F G xs d (λ r within. each (suc r) (omega arith)))

pub map-set_other : {A B : Type 0} (F G : A → B) (xs : List A) (q : ℕ) (y d : A) → ((r : ℕ) → r < length xs → r ≢ q → G (get_or xs r d) ≡ F (get_or xs r d)) → map G (set xs q y) ≡ set (map F xs) q (G y)
map-set_other F G [] q y d each = refl
map-set_other F G (x ∷ xs) zero y d each =
    ap (λ w. G y ∷ w) (map-same_each F G xs d (λ r within. each (suc r) (omega arith) (λ same. omega arith)))
map-set_other F G (x ∷ xs) (suc q) y d each =
    ap₂ (λ v w. v ∷ w) (each 0 (omega arith) (λ same. omega arith)) (map-set_other F G xs q y d (λ r within other. each (suc r) (omega arith) (λ same. other (omega arith))))

-- what holds at the new element, and held at each other one, holds at each
pub each-set : {A : Type 0} (P : A → Type 0) (xs : List A) (q : ℕ) (y d : A) → q < length xs → P y → ((r : ℕ) → r < length xs → r ≢ q → P (get_or xs r d)) → (r : ℕ) → r < length (set xs q y) → P (get_or (set xs q y) r d)
each-set P xs q y d given new others r within = go (eqb_tells r q)
  where
    inside : r < length xs
    inside = omega (arith, within, length-set xs q y)

    go : ((eqb r q ≡ true) × (r ≡ q)) ⊎ ((eqb r q ≡ false) × (r ≢ q)) → P (get_or (set xs q y) r d)
    go (inl same) = rw same.1 (rw (get_or-set_same xs q y d given) new)
    go (inr other) = rw (get_or-set_other xs q r y d other.1) (others r inside other.1)

-- what holds at each element, and at one more, holds at each
pub each-push : {A : Type 0} (P : A → Type 0) (xs : List A) (y d : A) → P y → ((r : ℕ) → r < length xs → P (get_or xs r d)) → (r : ℕ) → r < length (xs ++ y ∷ []) → P (get_or (xs ++ y ∷ []) r d)
each-push P [] y d new others zero within = new
each-push P [] y d new others (suc r) within = absurd (none within)
  where
    none : suc r < 1 → ⊥
    none h = omega (arith, h)
each-push P (x ∷ xs) y d new others zero within = others 0 (omega arith)
each-push P (x ∷ xs) y d new others (suc r) within = each-push P xs y d new (λ k inside. others (suc k) (omega (arith, inside))) r (omega (arith, within))
