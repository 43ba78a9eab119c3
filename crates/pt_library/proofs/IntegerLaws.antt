-- Integers, one at each of the first places.
use Rattle.std.proofs.Common.{◌≡◌, ℕ, zero, suc, ◌+◌, ◌<◌, List, [], ◌∷◌, ◌++◌, length, take, refl, sym, ap, ◌∙◌, add-one, arith}
use Rattle.std.specs.Prelude.{ℤ}
use Rattle.pt_meaning.specs.Basics.{Streams, at}
use Rattle.pt_value.specs.declared.token.Token.{Token}
use Rattle.pt_value.specs.declared.token.Token.TheVariants.{Int}
use Rattle.pt_firing.specs.IntInputs.{one_at_each}

-- the places before the next, and that one
next-taken : (X : Streams Token) (k : ℕ) → k < length X → take (suc k) X ≡ take k X ++ at X k ∷ []
next-taken [] k short = absurd (omega (arith, short))
next-taken (xs ∷ X) zero short = refl
next-taken (xs ∷ X) (suc k) short = ap (λ v. xs ∷ v) (next-taken X k (omega (arith, short)))

one-more : (ns : List ℤ) (n : ℤ) → one_at_each (ns ++ n ∷ []) ≡ one_at_each ns ++ (Int n ∷ []) ∷ []
one-more [] n = refl
one-more (m ∷ ns) n = ap (λ v. (Int m ∷ []) ∷ v) (one-more ns n)

-- where the next place has one integer too
pub more-places : (X : Streams Token) (ns ms : List ℤ) (k : ℕ) (n : ℤ) → one_at_each ns ≡ take k X → k < length X → at X k ≡ Int n ∷ [] → ms ≡ ns ++ n ∷ [] → one_at_each ms ≡ take (k + 1) X
more-places X ns ms k n before short next is =
    ap (λ v. one_at_each v) is ∙ one-more ns n ∙ ap (λ v. v ++ (Int n ∷ []) ∷ []) before ∙ ap (λ v. take k X ++ v ∷ []) (sym next) ∙ sym (next-taken X k short) ∙ ap (λ j. take j X) (sym (add-one k))
