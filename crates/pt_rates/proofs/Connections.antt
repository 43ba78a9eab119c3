-- One more channel, in the numbers that the program reads.
use Rattle.std.proofs.Common.{◌≡◌, ℕ, ◌*◌, inl, inr, true, eqb, length, sym, subst, eq-eqb}
use Rattle.std.proofs.lemmas.Bool.{cases_eq, ne_eqb}
use Rattle.pt_rates.specs.Balance.{IsChannel}
use Rattle.pt_rates.specs.Ratio.{IsLowest}
use Rattle.pt_rates.specs.Parts.{label_of, repetitions_of, AreMerged, ComesAfter}
use Rattle.pt_rates.specs.declared.edge.Edge.{Edge}
use Rattle.pt_rates.specs.declared.parts.Parts.{Parts}
use Rattle.pt_rates.proofs.Spans.{spanned-within, spanned-broken, spanned-merged}

-- a channel within a part
pub after-within : (edge : Edge) (old : Parts) → IsChannel (length old.labels.items) edge → label_of old edge.from ≡ label_of old edge.to → ComesAfter edge old old (eqb (repetitions_of old edge.from * edge.produced) (repetitions_of old edge.to * edge.consumed))
after-within edge old channel same = decided (repetitions_of old edge.from * edge.produced) (repetitions_of old edge.to * edge.consumed) (λ e. e) (λ d. d)
  where
    inside : (n : ℕ) → n ≡ length old.labels.items → IsChannel n edge
    inside n counted = subst (λ m. IsChannel m edge) (sym counted) channel

    decided : (put taken : ℕ) → (put ≡ taken → repetitions_of old edge.from * edge.produced ≡ repetitions_of old edge.to * edge.consumed) → ((put ≡ taken → ⊥) → repetitions_of old edge.from * edge.produced ≡ repetitions_of old edge.to * edge.consumed → ⊥) → ComesAfter edge old old (eqb put taken)
    decided put taken even uneven = elim (cases_eq put taken) [
      | inl e ↦ subst (λ b. ComesAfter edge old old b) (sym (eq-eqb put taken e)) (λ n edges counted h. spanned-within n edges edge old (inside n counted) h same (even e))
      | inr d ↦ subst (λ b. ComesAfter edge old old b) (sym (ne_eqb put taken d)) (λ n edges counted h. spanned-broken n edges edge old (inside n counted) h same (uneven d))
    ]

-- a channel between two parts
pub after-merged : (edge : Edge) (old new : Parts) (up down : ℕ) → IsChannel (length old.labels.items) edge → (label_of old edge.from ≡ label_of old edge.to → ⊥) → IsLowest (repetitions_of old edge.from * edge.produced) (repetitions_of old edge.to * edge.consumed) up down → AreMerged (label_of old edge.from) down (label_of old edge.to) up old new → ComesAfter edge old new true
after-merged edge old new up down channel apart lowest merged n edges counted h =
    spanned-merged n edges edge old new up down counted (subst (λ m. IsChannel m edge) (sym counted) channel) h apart lowest merged
