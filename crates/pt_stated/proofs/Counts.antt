-- Numbers of tokens are from 1 to 1,000,000.
use Rattle.std.proofs.Common.{◌≡◌, ℕ, ◌<◌, ◌≤◌, Bool, true, false, not, ℤ, pos, negsuc, ltb, refl, ap, arith, if◌then◌else◌}
use Rattle.std.specs.Prelude.{int_lt, nat_abs, Option, Some, None}
use Rattle.std.proofs.lemmas.Bool.{and_parts, ltb-false}
use Rattle.pt_value.specs.declared.token.Token.{Token}
use Rattle.pt_value.specs.declared.token.Token.TheVariants as token
use Rattle.pt_scopes.specs.Forms.{is_between}
use Rattle.pt_stated.specs.Numbers.{count, count_of, rate_in}

flip : (b : Bool) → not b ≡ true → b ≡ false
flip true e = absurd (let h : false ≡ true = e in cc)
flip false e = refl

not-below : (m n : ℕ) → not (ltb m n) ≡ true → n ≤ m
not-below m n e = ltb-false m n (flip (ltb m n) e)

-- an integer of this range
abbrev pub is_number : ℤ → Bool
is_number n = is_between (pos 1) (pos 1000000) n

is-within : (n : ℤ) → is_number n ≡ true → (1 ≤ nat_abs n) × (nat_abs n ≤ 1000000)
is-within (pos n) e =
    let h = and_parts (not (int_lt (pos n) (pos 1))) (not (int_lt (pos 1000000) (pos n))) e in
    (not-below n 1 h.0, not-below 1000000 n h.1)
is-within (negsuc n) e = absurd (let h : false ≡ true = e in cc)

count-is : (n : ℤ) → is_number n ≡ true → count n ≡ nat_abs n
count-is n e = ap (λ b. if b then nat_abs n else 0) e

pub count-least : (n : ℤ) → is_number n ≡ true → 0 < count n
count-least n e = omega (arith, count-is n e, (is-within n e).0)

pub count-most : (n : ℤ) → count n ≤ 1000000
count-most n = by_test (is_number n) refl
  where
    by_test : (b : Bool) → is_number n ≡ b → (if b then nat_abs n else 0) ≤ 1000000
    by_test true e = (is-within n e).1
    by_test false e = let h : 0 ≤ 1000000 = omega arith in h

-- the order of two integers is that of their numbers
pub count-ordered : (m n : ℤ) → is_number m ≡ true → is_number n ≡ true → not (int_lt n m) ≡ true → count m ≤ count n
count-ordered m n e d h = omega (arith, count-is m e, count-is n d, by_sign m n e d h)
  where
    by_sign : (m n : ℤ) → is_number m ≡ true → is_number n ≡ true → not (int_lt n m) ≡ true → nat_abs m ≤ nat_abs n
    by_sign (pos m) (pos n) e d h = not-below n m h
    by_sign (pos m) (negsuc n) e d h = absurd (let h : false ≡ true = d in cc)
    by_sign (negsuc m) n e d h = absurd (let h : false ≡ true = e in cc)

pub rate-most : (o : Option (Option Token)) → rate_in o ≤ 1000000
rate-most None = let h : 1 ≤ 1000000 = omega arith in h
rate-most (Some None) = let h : 1 ≤ 1000000 = omega arith in h
rate-most (Some (Some t)) = by_token t
  where
    by_token : (t : Token) → count_of t ≤ 1000000
    by_token (token.Int n) = count-most n
    by_token (token.Bool b) = let h : 0 ≤ 1000000 = omega arith in h
    by_token (token.Text s) = let h : 0 ≤ 1000000 = omega arith in h
    by_token (token.Array ts) = let h : 0 ≤ 1000000 = omega arith in h
    by_token (token.Record fs) = let h : 0 ≤ 1000000 = omega arith in h
