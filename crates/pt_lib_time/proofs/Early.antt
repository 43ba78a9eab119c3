-- Early answers that something decides, and else those of a strict actor: they grow with what is known, and agree with the step.
use Rattle.std.proofs.Common.{◌≡◌, ℕ, zero, suc, ◌≤◌, List, [], ◌∷◌, length, map, replicate, Option, Some, None, refl, sym, ap, subst, ◌∙◌, arith}
use Rattle.pt_meaning.specs.Basics.{Tag, Streams, at}
use Rattle.pt_meaning.specs.Machine.{Partial, Unknown, Known, partial_at}
use Rattle.pt_meaning.specs.Valuation.{known, known_then}
use Rattle.pt_meaning.specs.Node.{Answer}
use Rattle.pt_meaning.specs.Laws.{PartialBelow, KnownBelow}
use Rattle.pt_firing.specs.Row.{first_in}
use Rattle.pt_firing.specs.Strict.{strict, once_known, told_by}
use Rattle.pt_firing.specs.TriState.{tokens_known}
use Rattle.pt_lib_time.specs.Signal.{known_token, decided_or}

module _ {T : Type 0} where
  pub below-same : (v : Partial T) → PartialBelow v v
  below-same Unknown = tt
  below-same (Known xs) = refl

  pub below-unknown : (n p : ℕ) (w : Partial T) → PartialBelow (partial_at (replicate n Unknown) p) w
  below-unknown zero p w = tt
  below-unknown (suc n) zero w = tt
  below-unknown (suc n) (suc p) w = below-unknown n p w

  pub told-known : (X : Streams T) (p : ℕ) → PartialBelow (partial_at (map Known X) p) (Known (at X p))
  told-known [] p = tt
  told-known (xs ∷ X) zero = refl
  told-known (xs ∷ X) (suc p) = told-known X p

  -- place by place
  pub below-at : (vs ws : List (Partial T)) (n : ℕ) → KnownBelow vs ws → PartialBelow (partial_at vs n) (partial_at ws n)
  below-at [] ws n b = tt
  below-at (v ∷ vs) [] n b = absurd b
  below-at (v ∷ vs) (w ∷ ws) zero (b, bs) = b
  below-at (v ∷ vs) (w ∷ ws) (suc n) (b, bs) = below-at vs ws n bs

  -- behind the last place nothing is known
  pub known-past : (vs : List (Partial T)) (n : ℕ) → length vs ≤ n → partial_at vs n ≡ Unknown
  known-past [] n e = refl
  known-past (v ∷ vs) zero e = absurd (omega arith)
  known-past (v ∷ vs) (suc n) e = known-past vs n (omega arith)

  -- where a place and the others are known, they are the first of the streams and the rest
  pub split-known : (v : Partial T) (o : Option (Streams T)) (X : Streams T) → known_then v o ≡ Some X → (xs : List T) × (Y : Streams T) × (v ≡ Known xs) × (o ≡ Some Y) × (X ≡ xs ∷ Y)
  split-known v None X e = absurd (cc)
  split-known Unknown (Some Y) X e = absurd (cc)
  split-known (Known xs) (Some Y) X e = let same : X ≡ xs ∷ Y = cc in (xs, Y, refl, refl, same)

  -- where all is known nothing more can be
  pub all-known : (vs ws : List (Partial T)) (X : Streams T) → KnownBelow vs ws → known vs ≡ Some X → ws ≡ vs
  all-known [] [] X b e = refl
  all-known [] (w ∷ ws) X b e = absurd b
  all-known (v ∷ vs) [] X b e = absurd b
  all-known (v ∷ vs) (w ∷ ws) X (b, bs) e =
      let parts = split-known v (known vs) X e in
      let same : w ≡ v = same-place v w parts.0 parts.2 b in
      (λ i. same i ∷ all-known vs ws parts.1 bs parts.3 i)
    where
      same-place : (v w : Partial T) (xs : List T) → v ≡ Known xs → PartialBelow v w → w ≡ v
      same-place Unknown w xs h d = cc
      same-place (Known ys) w xs h d = d

  -- the token that is known on a place is the one that comes there
  pub known-token : (vs : List (Partial T)) (X : Streams T) (n : ℕ) → known vs ≡ Some X → known_token vs n ≡ first_in (at X n)
  known-token [] [] n e = refl
  known-token [] (xs ∷ X) n e = cc
  known-token (v ∷ vs) X zero e =
      let parts = split-known v (known vs) X e in
      ap (λ u. first_in (tokens_known u)) parts.2 ∙ ap (λ Y. first_in (at Y 0)) (sym parts.4)
  known-token (v ∷ vs) X (suc n) e =
      let parts = split-known v (known vs) X e in
      known-token vs parts.1 n parts.3 ∙ ap (λ Y. first_in (at Y (suc n))) (sym parts.4)

  -- one that is known on a place stays
  pub token-stays : (v w : Partial T) (t : T) → PartialBelow v w → first_in (tokens_known v) ≡ Some t → first_in (tokens_known w) ≡ Some t
  token-stays Unknown w t b e = cc
  token-stays (Known xs) w t b e = ap (λ u. first_in (tokens_known u)) b ∙ e

  module _ {A : Type 0} (ports : ℕ) (step : Tag → A → Streams T → Answer T A) (tag : Tag) (a : A) (vs : List (Partial T)) where
    -- an actor that is strict knows nothing while an input is unknown
    pub strict-waits : known vs ≡ None → strict ports step tag a vs ≡ replicate ports Unknown
    strict-waits e = ap (once_known ports (step tag a)) e

    -- and then what its step tells
    pub strict-tells : (X : Streams T) → known vs ≡ Some X → strict ports step tag a vs ≡ told_by ports (step tag a X)
    strict-tells X e = ap (once_known ports (step tag a)) e

    -- what is decided grows, so the answer does
    pub decided-grows : (decided : List (Partial T) → Partial T) (ws : List (Partial T)) → KnownBelow vs ws → PartialBelow (decided vs) (decided ws) → (p : ℕ) →
        PartialBelow (partial_at (decided_or (decided vs) (strict ports step tag a vs)) p) (partial_at (decided_or (decided ws) (strict ports step tag a ws)) p)
    decided-grows decided ws b more p = by_known (known vs) refl
      where
        by_decided : (v w : Partial T) (later : List (Partial T)) → PartialBelow v w → known vs ≡ None → PartialBelow (partial_at (decided_or v (strict ports step tag a vs)) p) (partial_at (decided_or w later) p)
        by_decided Unknown w later d k = subst (λ us. PartialBelow (partial_at us p) (partial_at (decided_or w later) p)) (sym (strict-waits k)) (below-unknown ports p (partial_at (decided_or w later) p))
        by_decided (Known xs) w later d k = subst (λ u. PartialBelow (partial_at (Known xs ∷ []) p) (partial_at (decided_or u later) p)) (sym d) (below-same (partial_at (Known xs ∷ []) p))

        by_known : (o : Option (Streams T)) → known vs ≡ o → PartialBelow (partial_at (decided_or (decided vs) (strict ports step tag a vs)) p) (partial_at (decided_or (decided ws) (strict ports step tag a ws)) p)
        by_known None k = by_decided (decided vs) (decided ws) (strict ports step tag a ws) more k
        by_known (Some X) k = subst (λ us. PartialBelow (partial_at (decided_or (decided vs) (strict ports step tag a vs)) p) (partial_at (decided_or (decided us) (strict ports step tag a us)) p)) (sym (all-known vs ws X b k)) (below-same (partial_at (decided_or (decided vs) (strict ports step tag a vs)) p))

    -- what is decided is what the step tells
    pub decided-tells : (X : Streams T) (v : Partial T) → known vs ≡ Some X → ((xs : List T) → v ≡ Known xs → told_by ports (step tag a X) ≡ Known xs ∷ []) → decided_or v (strict ports step tag a vs) ≡ told_by ports (step tag a X)
    decided-tells X Unknown e same = strict-tells X e
    decided-tells X (Known xs) e same = sym (same xs refl)
