-- What is taken while claims are looked at.
use Rattle.std.proofs.Common.{◌≡◌, ◌⊎◌, inl, inr, ℕ, zero, suc, ◌+◌, ◌<◌, ◌≤◌, List, length, get_or, set, replicate, Bool, true, false, Option, Some, None, refl, sym, ap, subst, ◌∙◌, arith, true≢false}
use Rattle.std.specs.Prelude.{slice_get}
use Rattle.std.specs.List.{list_all}
use Rattle.std.proofs.Math.Nat.{eq-or-lt_of_le}
use Rattle.std.proofs.lemmas.Bool.{false≢true, cases_eq}
use Rattle.std.proofs.lemmas.List.{length-set, get_or-set_same, get_or-set_other}
use Rattle.std.proofs.lemmas.List.Sums.{AllPass-from_list_all}
use Rattle.std.proofs.lemmas.Option.{slice_get-get_or, slice_get_within, same_Some, none-some}
use Rattle.pt_machine_parts.specs.Claims.{AreWithin, AreApart, IsClaimed, IsShared, IsIdle, itself, IsClaim, IsTaken}
use Rattle.pt_machine_parts.proofs.ListLaws.{some-fails}

none-taken : (count r : ℕ) → get_or (replicate count false) r false ≡ true → ⊥
none-taken zero r h = false≢true h
none-taken (suc n) zero h = false≢true h
none-taken (suc n) (suc r) h = none-taken n r h

-- at first nothing is taken
pub taken-first : (count : ℕ) (claims : List (Option ℕ)) (taken : List Bool) → taken ≡ replicate count false → IsTaken (length taken) claims 0 taken
taken-first count claims taken is = record {
  counted = refl;
  marked = λ r h. absurd (none-taken count r (sym (ap (λ (t : List Bool). get_or t r false) is) ∙ h));
  noted = λ i r short at. absurd (omega (arith, short));
  apart = λ i j r short below at there. absurd (omega (arith, short));
}

before : (i n : ℕ) → i < n + 1 → (i ≡ n) ⊎ (i < n)
before i n h = eq-or-lt_of_le (omega (arith, h))

-- one claim more
module _ (count : ℕ) (claims : List (Option ℕ)) (n : ℕ) (old : List Bool) (was : IsTaken count claims n old) where
  not-here : slice_get claims n ≡ Some None → (i r : ℕ) → i ≡ n → slice_get claims i ≡ Some (Some r) → ⊥
  not-here here i r same at = none-some r (same_Some None (Some r) (sym here ∙ ap (slice_get claims) (sym same) ∙ at))

  nothing-more : slice_get claims n ≡ Some None → IsTaken count claims (n + 1) old
  nothing-more here = record {
    counted = was.counted;
    marked = λ r m. let w = was.marked r m in (w.0, omega (arith, w.1), w.2);
    noted = λ i r below at. elim (before i n below) [ inl same ↦ absurd (not-here here i r same at) | inr short ↦ was.noted i r short at ];
    apart = λ i j r below below' at at'. elim (before i n below) [
      | inl same ↦ absurd (not-here here i r same at)
      | inr short ↦ elim (before j n below') [ inl same ↦ absurd (not-here here j r same at') | inr short' ↦ was.apart i j r short short' at at' ]
    ];
  }

module _ (count : ℕ) (claims : List (Option ℕ)) (n : ℕ) (old : List Bool) (was : IsTaken count claims n old) (r : ℕ) (here : slice_get claims n ≡ Some (Some r)) where
  same-number : (i q : ℕ) → i ≡ n → slice_get claims i ≡ Some (Some q) → q ≡ r
  same-number i q same at = same_Some q r (same_Some (Some q) (Some r) (sym at ∙ ap (slice_get claims) same ∙ here))

  one-more : r < length old → get_or old r false ≡ false → IsTaken count claims (n + 1) (set old r true)
  one-more within free = record {
    counted = length-set old r true ∙ was.counted;
    marked = marked;
    noted = noted;
    apart = λ i j q below below' at at'. elim (before i n below) [
      | inl same ↦ elim (before j n below') [ inl same' ↦ same ∙ sym same' | inr short' ↦ absurd (clash j q short' at' (same-number i q same at)) ]
      | inr short ↦ elim (before j n below') [ inl same' ↦ absurd (clash i q short at (same-number j q same' at')) | inr short' ↦ was.apart i j q short short' at at' ]
    ];
  }
    where
      clash : (i q : ℕ) → i < n → slice_get claims i ≡ Some (Some q) → q ≡ r → ⊥
      clash i q short at same = false≢true (sym free ∙ ap (λ (k : ℕ). get_or old k false) (sym same) ∙ was.noted i q short at)

      marked : (q : ℕ) → get_or (set old r true) q false ≡ true → (i : ℕ) × (i < n + 1) × (slice_get claims i ≡ Some (Some q))
      marked q m = elim (cases_eq q r) [
        | inl same ↦ (n, omega arith, here ∙ ap (λ (k : ℕ). Some (Some k)) (sym same))
        | inr other ↦ (let w = was.marked q (sym (get_or-set_other old r q true false other) ∙ m) in (w.0, omega (arith, w.1), w.2))
      ]

      noted : (i q : ℕ) → i < n + 1 → slice_get claims i ≡ Some (Some q) → get_or (set old r true) q false ≡ true
      noted i q below at = elim (cases_eq q r) [
        | inl same ↦ ap (λ (k : ℕ). get_or (set old r true) k false) same ∙ get_or-set_same old r true false within
        | inr other ↦ (let kept : get_or old q false ≡ true = elim (before i n below) [ inl same ↦ absurd (other (same-number i q same at)) | inr short ↦ was.noted i q short at ] in get_or-set_other old r q true false other ∙ kept)
      ]

pub taken-more : (count : ℕ) (claims : List (Option ℕ)) (n : ℕ) (d : Option ℕ) (old : List Bool) (free : Bool) (new : List Bool) → n < length claims → IsTaken count claims n old → free ≡ true → IsClaim (get_or claims n d) old free new → IsTaken count claims (n + 1) new
taken-more count claims n d old free new short was free_here claim = by_claim (get_or claims n d) free new (slice_get-get_or claims n d short) free_here claim
  where
    by_claim : (o : Option ℕ) (free : Bool) (new : List Bool) → slice_get claims n ≡ Some o → free ≡ true → IsClaim o old free new → IsTaken count claims (n + 1) new
    by_claim None free new here f h = subst (IsTaken count claims (n + 1)) (sym h.1) (nothing-more count claims n old was here)
    by_claim (Some r) true new here f h = subst (IsTaken count claims (n + 1)) (sym h.2) (one-more count claims n old was r here h.0 h.1)
    by_claim (Some r) false new here f h = absurd (false≢true f)

pub taken-twice : (count : ℕ) (claims : List (Option ℕ)) (n : ℕ) (d : Option ℕ) (old : List Bool) (free : Bool) (new : List Bool) → n < length claims → IsTaken count claims n old → AreWithin count claims → free ≡ false → IsClaim (get_or claims n d) old free new → IsShared claims
taken-twice count claims n d old free new short was within kept claim = by_claim (get_or claims n d) free (slice_get-get_or claims n d short) kept claim
  where
    by_claim : (o : Option ℕ) (free : Bool) → slice_get claims n ≡ Some o → free ≡ false → IsClaim o old free new → IsShared claims
    by_claim None free here f h = absurd (false≢true (sym f ∙ h.0))
    by_claim (Some r) true here f h = absurd (true≢false f)
    by_claim (Some r) false here f h =
        let below : r < length old = omega (arith, within n r here, was.counted) in
        let w = was.marked r (h below) in
        record { number = r; first = w.0; second = n; differ = λ same. omega (arith, w.1, same); one = w.2; two = here }

-- ---- once all claims are looked at

pub taken-all : (count : ℕ) (claims : List (Option ℕ)) (n : ℕ) (taken : List Bool) → length claims ≤ n → IsTaken count claims n taken → IsTaken count claims (length claims) taken
taken-all count claims n taken past t = record {
  counted = t.counted;
  marked = λ r m. let w = t.marked r m in (w.0, slice_get_within claims w.0 (Some r) w.2, w.2);
  noted = λ i r below at. t.noted i r (omega (arith, below, past)) at;
  apart = λ i j r below below' at at'. t.apart i j r (omega (arith, below, past)) (omega (arith, below', past)) at at';
}

module _ (count : ℕ) (claims : List (Option ℕ)) (taken : List Bool) (t : IsTaken count claims (length claims) taken) where
  pub all-apart : AreApart claims
  all-apart i j r at at' = t.apart i j r (slice_get_within claims i (Some r) at) (slice_get_within claims j (Some r) at') at at'

  pub each-claimed : list_all itself taken ≡ true → (r : ℕ) → r < count → IsClaimed claims r
  each-claimed all r short =
      let w = t.marked r (AllPass-from_list_all itself taken all r false (omega (arith, short, t.counted))) in
      (w.0, w.2)

  pub one-idle : list_all itself taken ≡ false → IsIdle count claims
  one-idle low =
      let w = some-fails itself taken low in
      let free : get_or taken w.1.0 false ≡ false = clear w.0 w.1.0 w.1.1 w.1.2 w.2 in
      record {
        number = w.1.0;
        short = omega (arith, w.1.1, t.counted);
        none = λ i at. false≢true (sym free ∙ t.noted i w.1.0 (slice_get_within claims i (Some w.1.0) at) at);
      }
    where
      clear : (b : Bool) (k : ℕ) → k < length taken → get_or taken k b ≡ b → b ≡ false → get_or taken k false ≡ false
      clear b k short is low = ap (λ (c : Bool). get_or taken k c) (sym low) ∙ is ∙ low
