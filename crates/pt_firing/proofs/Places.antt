-- Places one after another; those that aren't there have no tokens.
use Rattle.std.proofs.Common.{◌≡◌, ℕ, ◌≤◌, ◌<◌, ◌+◌, zero, suc, [], ◌∷◌, length, drop, ◌&&◌, true, false, refl, sym, ap, ◌∙◌, add-one, arith}
use Rattle.pt_meaning.specs.Basics.{Streams, at}
use Rattle.pt_firing.specs.Row.{is_present, all_present}

module _ {T : Type 0} where
  pub at-past : (X : Streams T) (n : ℕ) → length X ≤ n → at X n ≡ []
  at-past [] n past = refl
  at-past (xs ∷ X) zero past = absurd (omega arith)
  at-past (xs ∷ X) (suc n) past = at-past X n (omega arith)

  at-dropped : (X : Streams T) (n : ℕ) → n < length X → drop n X ≡ at X n ∷ drop (suc n) X
  at-dropped [] n short = absurd (omega arith)
  at-dropped (xs ∷ X) zero short = refl
  at-dropped (xs ∷ X) (suc n) short = at-dropped X n (omega arith)

  -- the places from one on, and from the next
  all_present-next : (X : Streams T) (n : ℕ) → n < length X → all_present (drop n X) ≡ (is_present X n && all_present (drop (n + 1) X))
  all_present-next X n short = ap all_present (at-dropped X n short) ∙ ap (λ m. is_present X n && all_present (drop m X)) (sym (add-one n))

  pub absent-here : (X : Streams T) (n : ℕ) → n < length X → is_present X n ≡ false → all_present (drop n X) ≡ false
  absent-here X n short none = all_present-next X n short ∙ ap (λ b. b && all_present (drop (n + 1) X)) none

  pub present-here : (X : Streams T) (n : ℕ) → n < length X → is_present X n ≡ true → all_present (drop n X) ≡ all_present (drop (n + 1) X)
  present-here X n short some = all_present-next X n short ∙ ap (λ b. b && all_present (drop (n + 1) X)) some
