-- What is known of places, one place after another.
use Rattle.std.proofs.Common.{◌≡◌, ℕ, zero, suc, ◌+◌, ◌<◌, List, [], ◌∷◌, ◌++◌, Option, Some, None, length, set, take, drop, refl, sym, ap, ◌∙◌, append_assoc, append-nil, get_or, add-one, drop-cons, arith}
use Rattle.std.proofs.lemmas.List.{take_more}
use Rattle.pt_meaning.specs.Basics.{Streams, at}
use Rattle.pt_meaning.specs.Machine.{Partial, Unknown, Known}
use Rattle.pt_meaning.specs.Valuation.{known, known_then}
use Rattle.pt_firing.specs.TriState.{if_known}

module _ {T : Type 0} where
  -- these streams, and behind them others, if those are known
  abbrev pub and_then : Streams T → Option (Streams T) → Option (Streams T)
  and_then X None = None
  and_then X (Some Y) = Some (X ++ Y)

  known-then : (X : Streams T) (xs : List T) (o : Option (Streams T)) → and_then X (known_then (Known xs) o) ≡ and_then (X ++ xs ∷ []) o
  known-then X xs None = refl
  known-then X xs (Some Y) = ap Some (sym (append_assoc X (xs ∷ []) Y))

  -- one place more that is known
  pub known-more : (X : Streams T) (v : Partial T) (vs : List (Partial T)) (xs : List T) → Some xs ≡ if_known v → and_then X (known (v ∷ vs)) ≡ and_then (X ++ xs ∷ []) (known vs)
  known-more X Unknown vs xs e = cc
  known-more X (Known ys) vs xs e = known-then X ys (known vs) ∙ ap (λ zs. and_then (X ++ zs ∷ []) (known vs)) (some-is ys xs e)
    where
      some-is : (ys xs : List T) → Some xs ≡ Some ys → ys ≡ xs
      some-is ys xs e = cc

  -- no place more
  pub known-all : (X : Streams T) → and_then X (known []) ≡ Some X
  known-all X = ap Some (append-nil X)

-- the front of what is left
pub drop-item : {X : Type 0} (xs : List X) (i : ℕ) (x : X) → i < length xs → x ≡ get_or xs i x → drop i xs ≡ x ∷ drop (i + 1) xs
drop-item xs i x short is = rw add-one (drop-cons xs i x short ∙ ap (λ y. y ∷ drop (suc i) xs) (sym is))

-- one element more is copied
pub copied-one : {X : Type 0} (xs ys : List X) (i : ℕ) (x y : X) → ys ≡ take i xs → i < length xs → y ≡ get_or xs i y → x ≡ y → ys ++ x ∷ [] ≡ take (i + 1) xs
copied-one xs ys i x y so_far short is same = ap (λ zs. zs ++ x ∷ []) so_far ∙ ap (λ z. take i xs ++ z ∷ []) (same ∙ is) ∙ sym (take_more xs i y short)

-- outputs that are taken port by port: what is left behind port n is as it was
module _ {T : Type 0} where
  pub drop-taken : (X : Streams T) (n : ℕ) (xs : List T) → drop (suc n) (set X n xs) ≡ drop (suc n) X
  drop-taken [] n xs = refl
  drop-taken (ys ∷ X) zero xs = refl
  drop-taken (ys ∷ X) (suc n) xs = drop-taken X n xs

  at-dropped : (X : Streams T) (n : ℕ) → at X n ≡ at (drop n X) 0
  at-dropped X zero = refl
  at-dropped [] (suc n) = refl
  at-dropped (xs ∷ X) (suc n) = at-dropped X n

  pub same-at : (X Y : Streams T) (n : ℕ) → drop n X ≡ drop n Y → at X n ≡ at Y n
  same-at X Y n e = at-dropped X n ∙ ap (λ Z. at Z 0) e ∙ sym (at-dropped Y n)

  pub drop-more : (X Y : Streams T) (n : ℕ) → drop n X ≡ drop n Y → drop (suc n) X ≡ drop (suc n) Y
  drop-more X Y n e = dropped X n ∙ ap (drop 1) e ∙ sym (dropped Y n)
    where
      dropped : (X : Streams T) (n : ℕ) → drop (suc n) X ≡ drop 1 (drop n X)
      dropped X zero = refl
      dropped [] (suc n) = refl
      dropped (xs ∷ X) (suc n) = dropped X n

  pub take-more : (X : Streams T) (n : ℕ) → n < length X → take (suc n) X ≡ take n X ++ at X n ∷ []
  take-more [] n short = absurd (omega arith)
  take-more (xs ∷ X) zero short = refl
  take-more (xs ∷ X) (suc n) short = ap (λ Z. xs ∷ Z) (take-more X n (omega arith))
