-- What a list has at a number, and what is behind it.
use Rattle.std.proofs.Common.{◌≡◌, ℕ, zero, suc, ◌+◌, ◌<◌, ◌≤◌, List, [], ◌∷◌, length, get_or, set, drop, refl, sym, ap, ◌∙◌, arith, add-one}
use Rattle.pt_reaction.specs.Lines.{first_from}

pub first-past : {T : Type 0} (xs : List T) (n : ℕ) → length xs ≤ n → [] ≡ first_from n xs
first-past [] n h = refl
first-past (x ∷ xs) zero h = absurd (omega (arith, h))
first-past (x ∷ xs) (suc n) h = first-past xs n (omega (arith, h))

pub first-there : {T : Type 0} (xs : List T) (n : ℕ) (x : T) → n < length xs → x ≡ get_or xs n x → x ∷ [] ≡ first_from n xs
first-there [] n x h e = absurd (omega (arith, h))
first-there (y ∷ xs) zero x h e = ap (λ v. v ∷ []) e
first-there (y ∷ xs) (suc n) x h e = first-there xs n x (omega (arith, h)) e

behind : {T : Type 0} (xs : List T) (n : ℕ) (x : T) → drop (suc n) (set xs n x) ≡ drop (suc n) xs
behind [] n x = refl
behind (y ∷ xs) zero x = refl
behind (y ∷ xs) (suc n) x = behind xs n x

pub behind-set : {T : Type 0} (xs : List T) (n : ℕ) (x : T) → drop (n + 1) (set xs n x) ≡ drop (n + 1) xs
behind-set xs n x = ap (λ k. drop k (set xs n x)) (add-one n) ∙ behind xs n x ∙ ap (λ k. drop k xs) (sym (add-one n))

pub one-behind : {T : Type 0} (n : ℕ) (x y : T) → drop (n + 1) (x ∷ []) ≡ drop (n + 1) (y ∷ [])
one-behind n x y = ap (λ k. drop k (x ∷ [])) (add-one n) ∙ ap (λ k. drop k (y ∷ [])) (sym (add-one n))

pub one-past : {T : Type 0} (n : ℕ) (x : T) → 0 < n → [] ≡ first_from n (x ∷ [])
one-past zero x h = absurd (omega (arith, h))
one-past (suc n) x h = refl

pub one-there : {T : Type 0} (n : ℕ) (x : T) → n ≤ 0 → x ∷ [] ≡ first_from n (x ∷ [])
one-there zero x h = refl
one-there (suc n) x h = absurd (omega (arith, h))
