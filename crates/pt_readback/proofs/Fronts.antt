-- What follows some bytes at the front of a text.
use Rattle.std.proofs.Common.{◌≡◌, ℕ, List, [], ◌∷◌, length, take, drop, Bool, true, false, cond, ◌&&◌, ◌==◌, Option, Some, None, option_map, MatchOption, inl, inr, refl, sym, ap, ◌∙◌}
use Rattle.std.specs.Prelude.{nat_eq}
use Rattle.std.specs.Cmp.Lexicographic.{pointwise}
use Rattle.std.proofs.lemmas.Bool.{and_parts, and_cases, false≢true, cond_both}
use Rattle.pt_readback.specs.Lines.{without}

pub without_some : (front text : List ℕ) → pointwise nat_eq (take (length front) text) front ≡ true → without front text ≡ Some (drop (length front) text)
without_some [] text h = refl
without_some (c ∷ cs) [] h = absurd (false≢true h)
without_some (c ∷ cs) (d ∷ ds) h =
    let k = and_parts (d == c) (pointwise nat_eq (take (length cs) ds) cs) h in
    ap (λ b. cond b (without cs ds) None) k.0 ∙ without_some cs ds k.1

pub without_none : (front text : List ℕ) → pointwise nat_eq (take (length front) text) front ≡ false → without front text ≡ None
without_none [] [] h = absurd (false≢true (sym h))
without_none [] (d ∷ ds) h = absurd (false≢true (sym h))
without_none (c ∷ cs) [] h = refl
without_none (c ∷ cs) (d ∷ ds) h = elim (and_cases (d == c) (pointwise nat_eq (take (length cs) ds) cs) h) [
  | inl k ↦ ap (λ b. cond b (without cs ds) None) k
  | inr k ↦ cond_both (d == c) (without cs ds) None (λ o. o ≡ None) (λ _. without_none cs ds k) (λ _. refl)
]

-- what `strip_prefix` says
pub strip_is : {A : Type 0} (now : A → List ℕ) (Q : A → Type 0) (front text : List ℕ) (r : Option A)
    → MatchOption r (pointwise nat_eq (take (length front) text) front ≡ false) (λ x. (pointwise nat_eq (take (length front) text) front ≡ true) × (now x ≡ drop (length front) text) × Q x) → option_map now r ≡ without front text
strip_is now Q front text None h = sym (without_none front text h)
strip_is now Q front text (Some x) h = ap Some h.1 ∙ sym (without_some front text h.0)
