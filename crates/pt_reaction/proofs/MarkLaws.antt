-- Stamps, and what is marked by them.
use Rattle.std.proofs.Common.{◌≡◌, ℕ, zero, suc, ◌+◌, ◌<◌, ◌≤◌, List, [], ◌∷◌, Bool, true, false, length, get_or, set, replicate, nat_eq, refl, sym, ap, ap₂, subst, ◌∙◌, arith}
use Rattle.std.proofs.lemmas.List.{length-map, get_or-map}
use Rattle.std.proofs.lemmas.Bool.Decides.{nat_tests}
use Rattle.pt_reaction.specs.Marks.{marked, AreStamps}

same-test : (p : ℕ) → nat_eq p p ≡ true
same-test p = grind (arith, nat_tests)

past-test : (s p : ℕ) → s ≤ p → nat_eq s (p + 1) ≡ false
past-test s p h = grind (arith, nat_tests, h)

pub marked-long : (p : ℕ) (S : List ℕ) → length (marked p S) ≡ length S
marked-long p S = length-map S (λ s. nat_eq s p)

-- none is marked at first
pub fresh : (n : ℕ) → marked 1 (replicate n 0) ≡ replicate n false
fresh zero = refl
fresh (suc n) = ap (λ v. false ∷ v) (fresh n)

zero-at : (n k : ℕ) → get_or (replicate n 0) k 0 ≤ 1
zero-at zero k = omega arith
zero-at (suc n) zero = omega arith
zero-at (suc n) (suc k) = zero-at n k

pub fresh-stamps : (n : ℕ) → AreStamps 1 (replicate n 0)
fresh-stamps n = record { some = omega arith; past = λ k h. zero-at n k }

-- one more is marked
pub marked-set : (p : ℕ) (S : List ℕ) (k : ℕ) → marked p (set S k p) ≡ set (marked p S) k true
marked-set p [] k = refl
marked-set p (s ∷ S) zero = ap (λ b. b ∷ marked p S) (same-test p)
marked-set p (s ∷ S) (suc k) = ap (λ v. nat_eq s p ∷ v) (marked-set p S k)

low : (p : ℕ) (S : List ℕ) (j : ℕ) → ((i : ℕ) → i < length S → get_or S i 0 ≤ p) → get_or S j 0 ≤ p
low p [] j h = omega arith
low p (s ∷ S) zero h = h 0 (omega arith)
low p (s ∷ S) (suc j) h = low p S j (λ i l. h (suc i) (omega (arith, l)))

set-low : (p : ℕ) (S : List ℕ) (k j : ℕ) → ((i : ℕ) → i < length S → get_or S i 0 ≤ p) → get_or (set S k p) j 0 ≤ p
set-low p [] k j h = omega arith
set-low p (s ∷ S) zero zero h = omega arith
set-low p (s ∷ S) zero (suc j) h = low p S j (λ i l. h (suc i) (omega (arith, l)))
set-low p (s ∷ S) (suc k) zero h = h 0 (omega arith)
set-low p (s ∷ S) (suc k) (suc j) h = set-low p S k j (λ i l. h (suc i) (omega (arith, l)))

pub set-stamps : (p : ℕ) (S : List ℕ) (k : ℕ) → AreStamps p S → AreStamps p (set S k p)
set-stamps p S k h = record { some = h.some; past = λ j l. set-low p S k j h.past }

-- none is marked by the next stamp
pub none-marked : (p : ℕ) (S : List ℕ) → ((i : ℕ) → i < length S → get_or S i 0 ≤ p) → marked (p + 1) S ≡ replicate (length S) false
none-marked p [] h = refl
none-marked p (s ∷ S) h = ap₂ (λ (b : Bool) (v : List Bool). b ∷ v) (past-test s p (h 0 (omega arith))) (none-marked p S (λ i l. h (suc i) (omega (arith, l))))

pub next-stamps : (p : ℕ) (S : List ℕ) → AreStamps p S → AreStamps (p + 1) S
next-stamps p S h = record { some = omega arith; past = λ j l. let a = h.past j l in omega (arith, a) }

-- what is read of the marks
module _ (p : ℕ) (S : List ℕ) (M : List Bool) (e : marked p S ≡ M) where
  pub there : (k : ℕ) → k < length M → k < length S
  there k l = let a = ap (λ (v : List Bool). length v) e in let b = marked-long p S in omega (arith, a, b, l)

  pub as-long : length S ≡ length M
  as-long = sym (marked-long p S) ∙ ap (λ (v : List Bool). length v) e

  pub mark-at : (k s : ℕ) → k < length M → s ≡ get_or S k s → nat_eq s p ≡ get_or M k false
  mark-at k s l r = ap (λ (v : ℕ). nat_eq v p) r ∙ sym (get_or-map (λ v. nat_eq v p) S k s false (there k l)) ∙ ap (λ (v : List Bool). get_or v k false) e

  pub mark-set : (k : ℕ) → marked p (set S k p) ≡ set M k true
  mark-set k = marked-set p S k ∙ ap (λ (v : List Bool). set v k true) e

  pub mark-none : AreStamps p S → marked (p + 1) S ≡ replicate (length M) false
  mark-none h = none-marked p S h.past ∙ ap (λ n. replicate n false) as-long

  pub mark-zeros : (Z : List ℕ) → Z ≡ replicate (length S) 0 → marked 1 Z ≡ replicate (length M) false
  mark-zeros Z z = ap (λ v. marked 1 v) z ∙ fresh (length S) ∙ ap (λ n. replicate n false) as-long

pub zero-stamps : (n : ℕ) (Z : List ℕ) → Z ≡ replicate n 0 → AreStamps 1 Z
zero-stamps n Z z = subst (λ v. AreStamps 1 v) (sym z) (fresh-stamps n)
