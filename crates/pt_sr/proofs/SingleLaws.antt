-- Whether each port has at most one token, port by port.
use Rattle.std.proofs.Common.{◌≡◌, ℕ, zero, suc, ◌+◌, ◌<◌, ◌≤◌, List, [], ◌∷◌, true, false, ◌&&◌, length, drop, refl, sym, ap, subst, ◌∙◌, arith, add-one}
use Rattle.pt_meaning.specs.Streams.{Streams, at}
use Rattle.pt_meaning.specs.Sr.{is_single, all_single}

module _ {T : Type 0} where
  short : (xs : List T) → length xs ≤ 1 → is_single xs ≡ true
  short [] h = refl
  short (x ∷ []) h = refl
  short (x ∷ y ∷ xs) h = absurd (omega (arith, h))

  long : (xs : List T) → 1 < length xs → is_single xs ≡ false
  long [] h = absurd (omega (arith, h))
  long (x ∷ []) h = absurd (omega (arith, h))
  long (x ∷ y ∷ xs) h = refl

  single-first : (X : Streams T) (k : ℕ) → k < length X → all_single (drop k X) ≡ (is_single (at X k) && all_single (drop (suc k) X))
  single-first [] k h = absurd (omega (arith, h))
  single-first (x ∷ X) zero h = refl
  single-first (x ∷ X) (suc k) h = single-first X k (omega (arith, h))

  pub single-next : (X : Streams T) (k : ℕ) → k < length X → (xs : List T) → xs ≡ at X k → length xs ≤ 1 → all_single (drop k X) ≡ all_single (drop (k + 1) X)
  single-next X k h xs e l =
      single-first X k h ∙ ap (λ b. b && all_single (drop (suc k) X)) (short (at X k) (subst (λ v. length v ≤ 1) e l)) ∙ ap (λ n. all_single (drop n X)) (sym (add-one k))

  pub single-not : (X : Streams T) (k : ℕ) → k < length X → (xs : List T) → xs ≡ at X k → 1 < length xs → all_single (drop k X) ≡ false
  single-not X k h xs e l = single-first X k h ∙ ap (λ b. b && all_single (drop (suc k) X)) (long (at X k) (subst (λ v. 1 < length v) e l))

  pub single-end : (X : Streams T) (k : ℕ) → length X ≤ k → all_single (drop k X) ≡ true
  single-end [] zero h = refl
  single-end [] (suc k) h = refl
  single-end (x ∷ X) zero h = absurd (omega (arith, h))
  single-end (x ∷ X) (suc k) h = single-end X k (omega (arith, h))
