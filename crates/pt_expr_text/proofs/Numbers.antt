-- The number that digits say.
use Rattle.std.proofs.Common.{◌≡◌, ℕ, suc, ◌+◌, ◌<◌, ◌≤◌, ◌^◌, List, [], ◌∷◌, length, take, Bool, true, false, cond, min, Result, Ok, Err, MatchResult, refl, sym, arith}
use Rattle.std.specs.List.{prefix_len}
use Rattle.std.specs.Str.{all_ascii_digits}
use Rattle.std.specs.Char.{is_ascii_digit}
use Rattle.std.specs.Str.Parse.{ParsesUnsigned, digits_value}
use Rattle.std.specs.Result.{OkIff}
use Rattle.std.proofs.lemmas.Str.Parse.{IsNumeralModel, numerals_by_value, tells_all_ascii_digits, parse_digits}
use Rattle.pt_language.specs.Words.{number_of}

by_outcome : {E : Type 0} (bs : List ℕ) (r : Result ℕ E) → 0 < length bs → OkIff r ((0 < length bs) × (digits_value 10 bs < 2 ^ 64)) (digits_value 10 bs) → MatchResult r (λ n. n ≡ number_of bs) (λ _. 0xffff_ffff_ffff_ffff ≡ number_of bs)
by_outcome bs (Ok n) some h = omega (arith, h.0.1, h.1)
by_outcome bs (Err e) some h = large (digits_value 10 bs) (λ small. h (some, small))
  where
    large : (n : ℕ) → ¬ (n < 2 ^ 64) → 0xffff_ffff_ffff_ffff ≡ min n 0xffff_ffff_ffff_ffff
    large n big = omega (arith, big)

pub parsed_number : {E : Type 0} (bs : List ℕ) (r : Result ℕ E) → ParsesUnsigned 64 10 bs r → all_ascii_digits bs ≡ true → 0 < length bs → MatchResult r (λ n. n ≡ number_of bs) (λ _. 0xffff_ffff_ffff_ffff ≡ number_of bs)
parsed_number bs r h p some = by_outcome bs r some (parse_digits (numerals_by_value (λ ds. all_ascii_digits ds ≡ true) tells_all_ascii_digits) 64 bs r h p)

-- a run of digits is all digits
pub run_of_digits : (xs : List ℕ) → all_ascii_digits (take (prefix_len is_ascii_digit xs) xs) ≡ true
run_of_digits [] = refl
run_of_digits (x ∷ xs) = by_test (is_ascii_digit x) refl (run_of_digits xs)
  where
    by_test : (b : Bool) → is_ascii_digit x ≡ b → all_ascii_digits (take (prefix_len is_ascii_digit xs) xs) ≡ true → all_ascii_digits (take (cond b (1 + prefix_len is_ascii_digit xs) 0) (x ∷ xs)) ≡ true
    by_test true e h =
        let q : 1 + prefix_len is_ascii_digit xs ≡ suc (prefix_len is_ascii_digit xs) = omega arith in
        rw q (rw e h)
    by_test false e h = refl
