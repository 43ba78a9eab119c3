-- A character between quotes, and the bytes that it is encoded as.
use Rattle.std.proofs.Common.{◌≡◌, ◌≢◌, ℕ, suc, ◌<◌, ◌≤◌, List, [], ◌∷◌, ◌++◌, length, get_or, false, eqb, flat_map, inl, inr, refl, sym, ap, ap₂, ◌∙◌, arith, append-nil, append_assoc}
use Rattle.std.proofs.lemmas.Bool.{cases_lt}
use Rattle.std.proofs.lemmas.Bool.Decides.{nat_tests}
use Rattle.std.proofs.lemmas.List.Concat.{flat_map-append}
use Rattle.std.proofs.lemmas.Str.{encode_ascii, inside_one}
use lib.Utf8.{encode}
use Rattle.pt_value.specs.Printed.{escaped}

eqb_apart : (c d : ℕ) → c ≢ d → eqb c d ≡ false
eqb_apart c d h = grind (arith, nat_tests)

-- all but five bytes stand as they are
plain_escaped : (c : ℕ) → c ≢ 34 → c ≢ 92 → c ≢ 10 → c ≢ 9 → c ≢ 13 → escaped c ≡ c ∷ []
plain_escaped c a b d e f = rw (eqb_apart c 34 a, eqb_apart c 92 b, eqb_apart c 10 d, eqb_apart c 9 e, eqb_apart c 13 f)

great_escaped : (xs : List ℕ) → ((k : ℕ) → k < length xs → 128 ≤ get_or xs k 0) → flat_map escaped xs ≡ xs
great_escaped [] h = refl
great_escaped (x ∷ xs) h =
    let great : 128 ≤ x = h 0 (omega arith) in
    ap₂ (λ (a b : List ℕ). a ++ b) (plain_escaped x (omega arith) (omega arith) (omega arith) (omega arith) (omega arith)) (great_escaped xs (λ k below. h (suc k) (omega arith)))

-- all but five characters stand as they are
pub plain_character : (c : ℕ) → c ≢ 34 → c ≢ 92 → c ≢ 10 → c ≢ 9 → c ≢ 13 → flat_map escaped (encode c) ≡ encode c
plain_character c a b d e f = elim (cases_lt c 128) [
  | inl small ↦ rw (encode_ascii c small) (rw (plain_escaped c a b d e f))
  | inr great ↦
      great_escaped (encode c) (λ k below. elim (cases_lt (get_or (encode c) k 0) 128) [
        | inl low ↦ absurd (omega (arith, inside_one c [] (encode c) k (sym (append-nil _)) below low))
        | inr h ↦ h
      ])
]

-- what is written and what is left, one character later
pub character_turn : (out next whole text rest : List ℕ) (c : ℕ) → text ≡ encode c ++ rest → next ≡ out ++ flat_map escaped (encode c) → out ++ flat_map escaped text ≡ whole → next ++ flat_map escaped rest ≡ whole
character_turn out next whole text rest c parts e h =
    let q : flat_map escaped text ≡ flat_map escaped (encode c) ++ flat_map escaped rest = ap (flat_map escaped) parts ∙ flat_map-append escaped (encode c) rest in
    ap (λ v. v ++ flat_map escaped rest) e ∙ append_assoc out (flat_map escaped (encode c)) (flat_map escaped rest) ∙ ap (λ v. out ++ v) (sym q) ∙ h
