-- The integers that a firing takes, place by place.
use Rattle.std.proofs.Common.{◌≡◌, ℕ, ℤ, zero, suc, ◌<◌, ◌≤◌, List, [], ◌∷◌, length, map, get_or, None, Bool, true, false, nat_eq, if◌then◌else◌, refl, ap, arith}
use Rattle.std.proofs.lemmas.Bool.{eqb-true}
use Rattle.pt_meaning.specs.Basics.{at}
use Rattle.pt_value.specs.declared.token.Token.TheVariants.{Int}
use Rattle.pt_firing.specs.IntInputs.{one_at_each, streams_of}
use Rattle.pt_firing.specs.Row.{truth_in}

-- one that was read is alone at its place
pub each-here : (ns : List ℤ) (place : ℕ) (n : ℤ) → place < length ns → n ≡ get_or ns place n → Int n ∷ [] ≡ at (one_at_each ns) place
each-here [] place n short is = absurd (omega arith)
each-here (m ∷ ns) zero n short is = ap (λ v. Int v ∷ []) is
each-here (m ∷ ns) (suc place) n short is = each-here ns place n (omega arith) is

-- there is none past the places
pub each-past : (ns : List ℤ) (place : ℕ) → length ns ≤ place → [] ≡ at (one_at_each ns) place
each-past [] place past = refl
each-past (m ∷ ns) zero past = absurd (omega arith)
each-past (m ∷ ns) (suc place) past = each-past ns place (omega arith)

-- an integer is no truth value
pub no-truth-among : (ns : List ℤ) → truth_in (map Int ns) ≡ None
no-truth-among [] = refl
no-truth-among (n ∷ ns) = refl

-- integers at the only place stand as they are
lone : (ns : List ℤ) → 1 ≡ length ns → one_at_each ns ≡ map Int ns ∷ []
lone [] e = absurd (omega (arith, e))
lone (n ∷ []) e = refl
lone (n ∷ m ∷ ns) e = absurd (omega (arith, e))

pub all-at-one : (ns : List ℤ) → streams_of 1 ns ≡ map Int ns ∷ []
all-at-one ns = by (nat_eq 1 (length ns)) refl
  where
    by : (same : Bool) → nat_eq 1 (length ns) ≡ same → (if same then one_at_each ns else map Int ns ∷ []) ≡ map Int ns ∷ []
    by true e = lone ns (eqb-true 1 (length ns) e)
    by false e = refl
