-- A list that is filled from the front, and reading one.
use Rattle.std.proofs.Common.{◌≡◌, ℕ, zero, suc, ◌+◌, ◌<◌, ◌≤◌, List, [], ◌∷◌, ◌++◌, length, get_or, set, drop, replicate, refl, sym, ap, ◌∙◌, arith, append-nil, add-one}
use Rattle.std.proofs.lemmas.List.{drop_all}

pub filled_more : {A : Type 0} (x : A) (xs ys : List A) (k : ℕ) → k < length xs → ys ≡ replicate k x ++ drop k xs → set ys k x ≡ replicate (k + 1) x ++ drop (k + 1) xs
filled_more {A} x xs ys k h e = ap (λ v. set v k x) e ∙ at-front xs k h ∙ ap (λ n. replicate n x ++ drop n xs) (sym (add-one k))
  where
    at-front : (xs : List A) (k : ℕ) → k < length xs → set (replicate k x ++ drop k xs) k x ≡ replicate (suc k) x ++ drop (suc k) xs
    at-front [] k h = absurd (omega (arith, h))
    at-front (y ∷ xs) zero h = refl
    at-front (y ∷ xs) (suc k) h = ap (λ v. x ∷ v) (at-front xs k (omega (arith, h)))

-- once all of it is filled
pub filled-all : {A : Type 0} (x : A) (xs ys : List A) (k : ℕ) → length xs ≤ k → k ≤ length xs → ys ≡ replicate k x ++ drop k xs → ys ≡ replicate (length xs) x
filled-all {A} x xs ys k h l e = e ∙ ap (λ v. replicate k x ++ v) (drop_all k xs h) ∙ append-nil (replicate k x) ∙ ap (λ n. replicate n x) (same k (length xs) h l)
  where
    same : (a b : ℕ) → b ≤ a → a ≤ b → a ≡ b
    same a b h l = omega (arith, h, l)

-- the element that is read at a number, whatever stands for one past the end
pub read-at : {X : Type 0} (xs : List X) (i : ℕ) (x d : X) → i < length xs → x ≡ get_or xs i x → x ≡ get_or xs i d
read-at [] i x d h e = absurd (omega arith)
read-at (y ∷ xs) zero x d h e = e
read-at (y ∷ xs) (suc i) x d h e = read-at xs i x d (omega arith) e
