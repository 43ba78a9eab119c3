-- What stands in a list from an index on.
use Rattle.std.proofs.Common.{◌≡◌, ℕ, zero, suc, ◌+◌, ◌<◌, ◌≤◌, ◌⊎◌, inl, inr, List, [], ◌∷◌, length, get_or, refl, ap, ◌∙◌, arith, Contains}
use Rattle.std.proofs.lemmas.Bool.{cases_eq}

-- the number stands in a list from an index on
pub record IsLeft (numbers : List ℕ) (index number : ℕ) : Type 0 where
  pub place : ℕ
  pub behind : index ≤ place
  pub inside : place < length numbers
  pub here : get_or numbers place 0 ≡ number

pub left-start : (numbers : List ℕ) (number : ℕ) → Contains numbers number → IsLeft numbers 0 number
left-start numbers number h = record { place = h.0; behind = omega arith; inside = h.1; here = within numbers h.0 number h.1 ∙ h.2 }
  where
    within : (xs : List ℕ) (k d : ℕ) → k < length xs → get_or xs k 0 ≡ get_or xs k d
    within [] k d h = absurd (omega arith)
    within (x ∷ xs) zero d h = refl
    within (x ∷ xs) (suc k) d h = within xs k d (omega arith)

pub left-more : (numbers : List ℕ) (index number : ℕ) → IsLeft numbers index number → (get_or numbers index 0 ≡ number) ⊎ IsLeft numbers (index + 1) number
left-more numbers index number h = elim (cases_eq index h.place) [
  | inl e ↦ inl (ap (λ k. get_or numbers k 0) e ∙ h.here)
  | inr d ↦ inr (record { place = h.place; behind = grind (arith, h.behind, d); inside = h.inside; here = h.here })
]
