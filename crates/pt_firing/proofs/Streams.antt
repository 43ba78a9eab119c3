-- Streams by port, and those of which all but the first are empty.
use Rattle.std.proofs.Common.{◌≡◌, ℕ, zero, suc, ◌<◌, List, [], ◌∷◌, ◌++◌, length, map, get_or, set, replicate, Bool, true, false, if◌then◌else◌, refl, sym, ap, arith}
use Rattle.std.proofs.lemmas.List.{length-replicate, set-get_or}
use Rattle.pt_meaning.specs.Basics.{Streams, at}
use Rattle.pt_meaning.specs.Machine.{Partial, partial_at}
use Rattle.pt_firing.specs.Outputs.{on_first}

module _ {T : Type 0} where
  abbrev empty : ℕ → Streams T
  empty n = replicate n []

  -- a list that was read is the one at its number
  pub at-read : (X : Streams T) (n : ℕ) (xs : List T) → n < length X → xs ≡ get_or X n xs → at X n ≡ xs
  at-read [] n xs short is = absurd (omega arith)
  at-read (ys ∷ X) zero xs short is = sym is
  at-read (ys ∷ X) (suc n) xs short is = at-read X n xs (omega arith) is

  pub length-on_first : (ports : ℕ) (xs : List T) → length (on_first ports xs) ≡ ports
  length-on_first zero xs = refl
  length-on_first (suc n) xs = ap (λ k. suc k) (length-replicate n [])

  at-empty : (n port : ℕ) → at (empty n) port ≡ []
  at-empty zero port = refl
  at-empty (suc n) zero = refl
  at-empty (suc n) (suc port) = at-empty n port

  set-empty : (n port : ℕ) → set (empty n) port [] ≡ empty n
  set-empty zero port = refl
  set-empty (suc n) zero = refl
  set-empty (suc n) (suc port) = ap (λ X. [] ∷ X) (set-empty n port)

  pub at-on_first : (ports : ℕ) (xs : List T) (port : ℕ) → 0 < port → at (on_first ports xs) port ≡ []
  at-on_first zero xs port h = refl
  at-on_first (suc n) xs zero h = absurd (omega arith)
  at-on_first (suc n) xs (suc port) h = at-empty n port

  pub at-on_first-zero : (ports : ℕ) (xs : List T) → 0 < ports → at (on_first ports xs) 0 ≡ xs
  at-on_first-zero zero xs h = absurd (omega arith)
  at-on_first-zero (suc n) xs h = refl

  pub set-on_first : (ports : ℕ) (xs : List T) (port : ℕ) → 0 < port → set (on_first ports xs) port [] ≡ on_first ports xs
  set-on_first zero xs port h = refl
  set-on_first (suc n) xs zero h = absurd (omega arith)
  set-on_first (suc n) xs (suc port) h = ap (λ X. xs ∷ X) (set-empty n port)

  pub set-on_first-zero : (ports : ℕ) (xs ys : List T) → set (on_first ports xs) 0 ys ≡ on_first ports ys
  set-on_first-zero zero xs ys = refl
  set-on_first-zero (suc n) xs ys = refl

  -- a push onto the list at a number, which may have failed
  pub set-pushed : (b : Bool) (X : Streams T) (n : ℕ) (xs ys : List T) (t : T) → n < length X → xs ≡ get_or X n xs → ys ≡ (if b then xs ++ t ∷ [] else xs) → set X n ys ≡ (if b then set X n (at X n ++ t ∷ []) else X)
  set-pushed true X n xs ys t short is e = rw (e, at-read X n xs short is) refl
  set-pushed false X n xs ys t short is e = rw (e, is) (set-get_or X n xs)

  -- what was read of a place is what is known of it
  pub partial_at-read : {X : Type 0} (f : X → Partial T) (xs : List X) (n : ℕ) (x : X) → n < length xs → x ≡ get_or xs n x → partial_at (map f xs) n ≡ f x
  partial_at-read f [] n x short is = absurd (omega arith)
  partial_at-read f (y ∷ xs) zero x short is = ap f (sym is)
  partial_at-read f (y ∷ xs) (suc n) x short is = partial_at-read f xs n x (omega arith) is
