-- Where a text may be cut: behind a run of ASCII bytes, and before the first byte that stops a run and is ASCII.
use Rattle.std.proofs.Common.{◌≡◌, ℕ, zero, suc, ◌+◌, ◌<◌, ◌≤◌, ◌⊎◌, List, [], ◌∷◌, length, get_or, Bool, true, false, cond, refl, inl, inr, sym, ◌∙◌, ap, subst, arith}
use Rattle.std.specs.List.{prefix_len}
use Rattle.std.specs.Str.{IsUtf8, IsCharBoundary}
use Rattle.std.specs.Char.{is_ascii_digit}
use Rattle.std.proofs.lemmas.Bool.Decides.{nat_tests}
use Rattle.pt_language.specs.Words.{is_blank, continues_name, is_plain}
use Rattle.std.proofs.lemmas.Str.{IsCharBoundary-start, IsCharBoundary-end, IsCharBoundary-after_ascii, IsCharBoundary-before_ascii}

-- each byte of a run passes
passes_at : (p : ℕ → Bool) (xs : List ℕ) (k : ℕ) → k < prefix_len p xs → (k < length xs) × (p (get_or xs k 0) ≡ true)
passes_at p [] k lt = absurd (omega arith)
passes_at p (x ∷ xs) zero lt = by_test (p x) refl lt
  where
    by_test : (b : Bool) → p x ≡ b → 0 < cond b (1 + prefix_len p xs) 0 → (0 < length (x ∷ xs)) × (p x ≡ true)
    by_test true e h = (omega arith, e)
    by_test false e h = absurd (omega arith)
passes_at p (x ∷ xs) (suc k) lt = by_test (p x) (passes_at p xs k) lt
  where
    by_test : (b : Bool) → (k < prefix_len p xs → (k < length xs) × (p (get_or xs k 0) ≡ true)) → suc k < cond b (1 + prefix_len p xs) 0 → (suc k < length (x ∷ xs)) × (p (get_or xs k 0) ≡ true)
    by_test true next h = let r = next (omega arith) in (omega (arith, r.0), r.1)
    by_test false next h = absurd (omega arith)

-- a run ends with the text, or at a byte that doesn't pass
stops_at : (p : ℕ → Bool) (xs : List ℕ) → (prefix_len p xs ≡ length xs) ⊎ ((prefix_len p xs < length xs) × (p (get_or xs (prefix_len p xs) 0) ≡ false))
stops_at p [] = inl refl
stops_at p (x ∷ xs) = by_test (p x) refl (stops_at p xs)
  where
    by_test : (b : Bool) → p x ≡ b → (prefix_len p xs ≡ length xs) ⊎ ((prefix_len p xs < length xs) × (p (get_or xs (prefix_len p xs) 0) ≡ false))
        → (cond b (1 + prefix_len p xs) 0 ≡ length (x ∷ xs)) ⊎ ((cond b (1 + prefix_len p xs) 0 < length (x ∷ xs)) × (p (get_or (x ∷ xs) (cond b (1 + prefix_len p xs) 0) 0) ≡ false))
    by_test true e (inl h) = inl (omega (arith, h))
    by_test true e (inr h) =
        let q : suc (prefix_len p xs) ≡ 1 + prefix_len p xs = omega arith in
        let P : ℕ → Type 0 = λ m. p (get_or (x ∷ xs) m 0) ≡ false in
        inr (omega (arith, h.0), subst P q h.1)
    by_test false e h = inr (omega arith, e)

-- behind a run of ASCII bytes
pub run_cut : (p : ℕ → Bool) → ((c : ℕ) → p c ≡ true → c < 128) → (xs : List ℕ) → IsUtf8 xs → IsCharBoundary xs (prefix_len p xs)
run_cut p small xs u = by_length (prefix_len p xs) refl
  where
    by_length : (n : ℕ) → prefix_len p xs ≡ n → IsCharBoundary xs n
    by_length zero e = IsCharBoundary-start xs u
    by_length (suc n) e =
        let r = passes_at p xs n (omega (arith, e)) in
        let P : ℕ → Type 0 = λ m. IsCharBoundary xs m in
        let q : n + 1 ≡ suc n = omega arith in
        subst P q (IsCharBoundary-after_ascii xs n u r.0 (small _ r.1))

-- before the byte that stops a run
pub stop_cut : (p : ℕ → Bool) → ((c : ℕ) → p c ≡ false → c < 128) → (xs : List ℕ) → IsCharBoundary xs (prefix_len p xs)
stop_cut p small xs = elim (stops_at p xs) [
  | inl h ↦ let P : ℕ → Type 0 = λ m. IsCharBoundary xs m in subst P (sym h) (IsCharBoundary-end xs)
  | inr h ↦ IsCharBoundary-before_ascii xs _ h.0 (small _ h.1)
]

pub blank_cut : (xs : List ℕ) → IsUtf8 xs → IsCharBoundary xs (prefix_len is_blank xs)
blank_cut xs u = run_cut is_blank (λ c e. grind (arith, nat_tests)) xs u

pub digit_cut : (xs : List ℕ) → IsUtf8 xs → IsCharBoundary xs (prefix_len is_ascii_digit xs)
digit_cut xs u = run_cut is_ascii_digit (λ c e. grind (arith, nat_tests)) xs u

pub name_cut : (xs : List ℕ) → IsUtf8 xs → IsCharBoundary xs (prefix_len continues_name xs)
name_cut xs u = run_cut continues_name (λ c e. grind (arith, nat_tests)) xs u

pub plain_cut : (xs : List ℕ) → IsCharBoundary xs (prefix_len is_plain xs)
plain_cut xs = stop_cut is_plain (λ c e. grind (arith, nat_tests)) xs
