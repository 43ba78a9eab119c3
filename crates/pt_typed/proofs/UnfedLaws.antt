-- The channels that end nowhere, behind all others of a composite: the kinds of the own inputs at which they begin.
use Rattle.std.proofs.Common.{◌≡◌, ℕ, zero, suc, ◌+◌, ◌<◌, ◌≤◌, List, [], ◌∷◌, ◌++◌, length, map, drop, Option, Some, None, refl, sym, ap, subst, arith, ◌∙◌, length-append, length-drop}
use Rattle.std.specs.List.{AllByRecursion}
use Rattle.pt_meaning.specs.Streams.{get}
use Rattle.pt_meaning.specs.Net.{Own}
use Rattle.pt_meaning.specs.Running.{total}
use Rattle.pt_meaning.specs.Kahn.{skip_places}
use Rattle.pt_kinds.specs.Signature.{Signature, Signatures}
use Rattle.pt_kinds.specs.TypedTree.{kinds_from, kind_before, kinds_at, AreSized, IsFed, AreFed}

-- ---- lists

drop-within : {A : Type 0} (n : ℕ) (xs ys : List A) → n ≤ length xs → drop n (xs ++ ys) ≡ drop n xs ++ ys
drop-within zero xs ys e = refl
drop-within (suc n) [] ys e = absurd (omega (arith, e))
drop-within (suc n) (x ∷ xs) ys e = drop-within n xs ys (omega (arith, e))

drop-whole : {A : Type 0} (n : ℕ) (xs ys : List A) → length xs ≡ n → drop n (xs ++ ys) ≡ ys
drop-whole zero [] ys e = refl
drop-whole zero (x ∷ xs) ys e = absurd (omega (arith, e))
drop-whole (suc n) [] ys e = absurd (omega (arith, e))
drop-whole (suc n) (x ∷ xs) ys e = drop-whole n xs ys (omega (arith, e))

-- what is behind the places and so many own outputs
pub behind-all : {A : Type 0} (ns : List ℕ) (n : ℕ) (xs ys : List A) → length xs ≡ total ns + n → drop n (skip_places ns (xs ++ ys)) ≡ ys
behind-all [] n xs ys e = drop-whole n xs ys (omega (arith, e))
behind-all (m ∷ ns) n xs ys e = ap (λ v. drop n (skip_places ns v)) (drop-within m xs ys (omega (arith, e))) ∙ behind-all ns n (drop m xs) ys (omega (arith, e, length-drop m xs))

pub get-there : {A : Type 0} (xs : List A) (n : ℕ) → n < length xs → get xs n ≡ None → ⊥
get-there [] n l e = omega (arith, l)
get-there (x ∷ xs) zero l e = cc
get-there (x ∷ xs) (suc n) l e = get-there xs n (omega (arith, l)) e

-- ---- kinds

pub kinds-length : {K : Type 0} (sigs : Signatures K) (ks : List K) (i : ℕ) (ns : List ℕ) → AreSized sigs i ns → length (kinds_from sigs ks i ns) ≡ total ns + (length (sigs []).outputs + length ks)
kinds-length sigs ks i [] z = omega (arith, length-append (sigs []).outputs ks)
kinds-length sigs ks i (n ∷ ns) z = omega (arith, z.0, kinds-length sigs ks (suc i) ns z.1, length-append (sigs (i ∷ [])).places (kinds_from sigs ks (suc i) ns))

-- own inputs that are there
abbrev pub AreInputs : {K : Type 0} → Signatures K → List ℕ → Type 0
AreInputs sigs us = AllByRecursion (λ n. n < length (sigs []).places) us

module _ {T K A : Type 0} (Has : K → T → Type 0) (Below : K → K → Type 0) (Fits : Signature K → A → Type 0) (same : (k : K) → Below k k) (sigs : Signatures K) where
  pub own-fed : (us : List ℕ) → AreInputs sigs us → AreFed {A = A} Has Below Fits sigs (map Own us) (kinds_at sigs (map Own us))
  own-fed [] h = tt
  own-fed (n ∷ us) h = by_kind (get (sigs []).places n) refl (own-fed us h.1)
    where
      by_kind : (o : Option K) → get (sigs []).places n ≡ o → AreFed {A = A} Has Below Fits sigs (map Own us) (kinds_at sigs (map Own us)) → AreFed {A = A} Has Below Fits sigs (Own n ∷ map Own us) (kind_before o (kinds_at sigs (map Own us)))
      by_kind None e rest = absurd (get-there (sigs []).places n h.0 e)
      by_kind (Some k) e rest = (subst (λ o. IsFed {A = A} Has Below Fits o k) (sym e) (same k), rest)
