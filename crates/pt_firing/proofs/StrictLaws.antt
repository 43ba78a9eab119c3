-- The early answer of a strict actor grows with what is known, and agrees with its step.
use Rattle.std.proofs.Common.{◌≡◌, ℕ, zero, suc, List, [], ◌∷◌, map, replicate, Option, Some, None, refl, sym, ap, subst, ◌∙◌}
use Rattle.pt_meaning.specs.Basics.{Tag, Streams, at}
use Rattle.pt_meaning.specs.Machine.{Partial, Unknown, Known, partial_at}
use Rattle.pt_meaning.specs.Valuation.{known, known_then}
use Rattle.pt_meaning.specs.Node.{Answer, Gives}
use Rattle.pt_meaning.specs.Laws.{PartialBelow, KnownBelow}
use Rattle.pt_firing.specs.Strict.{strict, once_known, told_by}

module _ {T : Type 0} where
  below-same : (v : Partial T) → PartialBelow v v
  below-same Unknown = tt
  below-same (Known xs) = refl

  below-unknown : (n p : ℕ) (w : Partial T) → PartialBelow (partial_at (replicate n Unknown) p) w
  below-unknown zero p w = tt
  below-unknown (suc n) zero w = tt
  below-unknown (suc n) (suc p) w = below-unknown n p w

  told-known : (X : Streams T) (p : ℕ) → PartialBelow (partial_at (map Known X) p) (Known (at X p))
  told-known [] p = tt
  told-known (xs ∷ X) zero = refl
  told-known (xs ∷ X) (suc p) = told-known X p

  more-known : (v w : Partial T) (o o' : Option (Streams T)) (X : Streams T) → PartialBelow v w → ((Y : Streams T) → o ≡ Some Y → o' ≡ Some Y) → known_then v o ≡ Some X → known_then w o' ≡ Some X
  more-known v w None o' X b same e = cc
  more-known Unknown w (Some Y) o' X b same e = cc
  more-known (Known xs) w (Some Y) o' X b same e = ap (λ u. known_then u o') b ∙ ap (known_then (Known xs)) (same Y refl) ∙ e

  -- where all is known, no more can be known
  same-known : (vs ws : List (Partial T)) (X : Streams T) → KnownBelow vs ws → known vs ≡ Some X → known ws ≡ Some X
  same-known [] [] X b e = e
  same-known [] (w ∷ ws) X b e = absurd b
  same-known (v ∷ vs) [] X b e = absurd b
  same-known (v ∷ vs) (w ∷ ws) X (b, bs) e = more-known v w (known vs) (known ws) X b (λ Y k. same-known vs ws Y bs k) e

  module _ {A : Type 0} (ports : ℕ) (step : Tag → A → Streams T → Answer T A) (tag : Tag) (a : A) where
    pub strict-grows : (vs ws : List (Partial T)) → KnownBelow vs ws → (p : ℕ) → PartialBelow (partial_at (strict ports step tag a vs) p) (partial_at (strict ports step tag a ws) p)
    strict-grows vs ws b p = by_known (known vs) refl
      where
        by_known : (o : Option (Streams T)) → known vs ≡ o → PartialBelow (partial_at (once_known ports (step tag a) o) p) (partial_at (strict ports step tag a ws) p)
        by_known None k = below-unknown ports p (partial_at (strict ports step tag a ws) p)
        by_known (Some X) k = subst (λ o. PartialBelow (partial_at (told_by ports (step tag a X)) p) (partial_at (once_known ports (step tag a) o) p)) (sym (same-known vs ws X b k)) (below-same (partial_at (told_by ports (step tag a X)) p))

    pub strict-agrees : (vs : List (Partial T)) (X : Streams T) (b : A) (out : Streams T) → known vs ≡ Some X → step tag a X ≡ Gives b out → (p : ℕ) → PartialBelow (partial_at (strict ports step tag a vs) p) (Known (at out p))
    strict-agrees vs X b out k e p =
        subst (λ o. PartialBelow (partial_at (once_known ports (step tag a) o) p) (Known (at out p))) (sym k) (
        subst (λ r. PartialBelow (partial_at (told_by ports r) p) (Known (at out p))) (sym e) (told-known out p))
