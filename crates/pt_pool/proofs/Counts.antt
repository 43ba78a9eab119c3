-- How often a cell stands in lists.
use Rattle.std.proofs.Common.{◌≡◌, ◌≢◌, ℕ, zero, suc, ◌+◌, ◌<◌, ◌≤◌, List, [], ◌∷◌, ◌++◌, length, get_or, set, refl, sym, ap, ◌∙◌, arith, eqb, true, false}
use Rattle.std.proofs.lemmas.Bool.{eq-eqb}
use Rattle.pt_pool.specs.Chains.{times, times_in}

pub times-append : (c : ℕ) (xs ys : List ℕ) → times c (xs ++ ys) ≡ times c xs + times c ys
times-append c [] ys = omega arith
times-append c (x ∷ xs) ys = omega (arith, times-append c xs ys)

pub times-self : (c : ℕ) (cs : List ℕ) → times c (c ∷ cs) ≡ 1 + times c cs
times-self c cs = rw (eq-eqb c c refl) refl

-- a cell that stands nowhere in a list isn't the first
pub not_first : (c x : ℕ) (cs : List ℕ) → times c (x ∷ cs) ≡ 0 → x ≢ c
not_first c x cs none same = omega (arith, times-self c cs, sym (ap (λ v. times c (v ∷ cs)) same) ∙ none)

pub not_later : (c x : ℕ) (cs : List ℕ) → times c (x ∷ cs) ≡ 0 → times c cs ≡ 0
not_later c x cs none = omega (arith, none)

pub times_in-append : (c : ℕ) (xs ys : List (List ℕ)) → times_in c (xs ++ ys) ≡ times_in c xs + times_in c ys
times_in-append c [] ys = omega arith
times_in-append c (x ∷ xs) ys = omega (arith, times_in-append c xs ys)

pub times_in-set : (c : ℕ) (xs : List (List ℕ)) (q : ℕ) (ys : List ℕ) → q < length xs → times_in c (set xs q ys) + times c (get_or xs q []) ≡ times_in c xs + times c ys
times_in-set c [] q ys given = omega arith
times_in-set c (x ∷ xs) zero ys given = omega arith
times_in-set c (x ∷ xs) (suc q) ys given = omega (arith, times_in-set c xs q ys (omega arith))

pub times-le : (c : ℕ) (xs : List (List ℕ)) (q : ℕ) → times c (get_or xs q []) ≤ times_in c xs
times-le c [] q = omega arith
times-le c (x ∷ xs) zero = omega arith
times-le c (x ∷ xs) (suc q) = omega (arith, times-le c xs q)

-- two lists together have no more of a cell than all have
pub times-two : (c : ℕ) (xs : List (List ℕ)) (q r : ℕ) → r ≢ q → times c (get_or xs q []) + times c (get_or xs r []) ≤ times_in c xs
times-two c [] q r other = omega arith
times-two c (x ∷ xs) zero zero other = absurd (other refl)
times-two c (x ∷ xs) zero (suc r) other = omega (arith, times-le c xs r)
times-two c (x ∷ xs) (suc q) zero other = omega (arith, times-le c xs q)
times-two c (x ∷ xs) (suc q) (suc r) other = omega (arith, times-two c xs q r (λ same. other (ap suc same)))
