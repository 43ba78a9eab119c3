-- What a token prints is UTF-8.
use Rattle.std.proofs.Common.{◌≡◌, ◌≢◌, ◌⊎◌, ℕ, zero, suc, ◌<◌, ◌≤◌, ◌^◌, ℤ, pos, negsuc, List, [], ◌∷◌, ◌++◌, length, get_or, flat_map, Bool, true, false, cond, ◌&&◌, codes, All, inl, inr, refl, sym, subst, ap, ◌∙◌, arith, append-nil, rules}
use Rattle.std.proofs.lemmas.Bool.{cases_lt}
use Rattle.std.proofs.lemmas.Bool.Decides.{nat_tests}
use Rattle.std.proofs.lemmas.List.Concat.{flat_map-append}
use Rattle.std.proofs.lemmas.Str.{IsUtf8-append, IsUtf8-nil, IsUtf8-from_ascii, encode_ascii}
use Rattle.std.proofs.lemmas.Fmt.{IsAscii-decimal}
use Rattle.std.specs.Prelude.{IsTrue, nat_lt}
use Rattle.std.specs.List.{list_all}
use Rattle.std.specs.Str.{IsUtf8, IsAscii}
use Rattle.std.specs.Fmt.{signed_decimal, decimal}
use lib.Utf8.{encode, encodes, scalar, scalars}
use Rattle.pt_value.specs.Value as val
use Rattle.pt_value.specs.Value.{Value, Values, no_values, value_then, Named, fields_of}
use Rattle.pt_value.specs.Printed.{printed, printed_truth, each_printed, each_named, in_braces, separated_by, more_after, quoted, escaped}
use Rattle.pt_value.specs.Name.{IsName, BeginsName, ContinuesName}
use Rattle.pt_value.specs.Record.{names}
use Rattle.pt_language.specs.Meaning.{fits}
use Rattle.pt_expr_print.specs.Literal.{IsWritable, AreWritable, HaveWritable}
use Rattle.pt_expr_print.proofs.Escapes.{plain_character}
use Rattle.pt_readback.specs.Token.{IsTokenValue, HasTexts, HaveTexts, FieldsHaveTexts}

-- bytes below 128
ascii_then : (c : ℕ) (cs : List ℕ) → c < 128 → IsAscii cs → IsAscii (c ∷ cs)
ascii_then c cs h k zero = h
ascii_then c cs h k (suc i) = k i

small : (c : ℕ) → nat_lt c 128 ≡ true → c < 128
small c h = grind (arith, nat_tests)

both : (a b : Bool) → (a && b) ≡ true → (a ≡ true) × (b ≡ true)
both true b e = (refl, e)
both false b e = cc

small_ascii : (cs : List ℕ) → list_all (λ c. nat_lt c 128) cs ≡ true → IsAscii cs
small_ascii [] h = λ i. omega arith
small_ascii (c ∷ cs) h = let k = both (nat_lt c 128) (list_all (λ d. nat_lt d 128) cs) h in ascii_then c cs (small c k.0) (small_ascii cs k.1)

pub small_utf8 : (cs : List ℕ) → list_all (λ c. nat_lt c 128) cs ≡ true → IsUtf8 cs
small_utf8 cs h = IsUtf8-from_ascii cs (small_ascii cs h)

begins_ascii : (c : ℕ) → BeginsName c → c < 128
begins_ascii c h = grind (arith, nat_tests)

continues_ascii : (c : ℕ) → ContinuesName c → c < 128
continues_ascii c h = grind (arith, nat_tests)

all_ascii : (cs : List ℕ) → All ContinuesName cs → IsAscii cs
all_ascii [] h = λ i. omega arith
all_ascii (c ∷ cs) h = ascii_then c cs (continues_ascii c (h 0 0 (omega arith))) (all_ascii cs (λ i d below. h (suc i) d (omega arith)))

name_utf8 : (name : List ℕ) → IsName name → IsUtf8 name
name_utf8 [] h = IsUtf8-nil
name_utf8 (c ∷ cs) h = IsUtf8-from_ascii (c ∷ cs) (ascii_then c cs (begins_ascii c h.form.0) (all_ascii cs h.form.1))

-- integers
below : (n : ℕ) → IsTrue (fits (pos n)) → n < 2 ^ 64
below n h = grind (arith, nat_tests)

below_too : (n : ℕ) → IsTrue (fits (negsuc n)) → suc n < 2 ^ 64
below_too n h = grind (arith, nat_tests)

int_utf8 : (n : ℤ) → IsTrue (fits n) → IsUtf8 (signed_decimal n)
int_utf8 (pos n) h = IsUtf8-from_ascii (decimal n) (IsAscii-decimal n (below n h))
int_utf8 (negsuc n) h = IsUtf8-from_ascii (45 ∷ decimal (suc n)) (ascii_then 45 (decimal (suc n)) (omega arith) (IsAscii-decimal (suc n) (below_too n h)))

-- texts
equal_or : (a b : ℕ) → (a ≡ b) ⊎ (a ≢ b)
equal_or a b = elim (cases_lt a b) [
  | inl less ↦ inr (omega arith)
  | inr h ↦ elim (cases_lt b a) [ inl less ↦ inr (omega arith) | inr k ↦ inl (omega arith) ]
]

one_utf8 : (c : ℕ) → scalar c ≡ true → IsUtf8 (encode c)
one_utf8 c h = (c ∷ [], (ap (λ b. b && true) h, append-nil (encode c)))

-- a byte that is escaped, in its place
escape_utf8 : (c d : ℕ) (bytes : List ℕ) → c ≡ d → d < 128 → flat_map escaped (d ∷ []) ≡ bytes → IsUtf8 bytes → IsUtf8 (flat_map escaped (encode c))
escape_utf8 c d bytes e h f u =
    let q : flat_map escaped (encode c) ≡ bytes = ap (λ n. flat_map escaped (encode n)) e ∙ ap (flat_map escaped) (encode_ascii d h) ∙ f in
    subst IsUtf8 (sym q) u

character_utf8 : (c : ℕ) → scalar c ≡ true → IsUtf8 (flat_map escaped (encode c))
character_utf8 c h = elim (equal_or c 34) [
  | inl e ↦ escape_utf8 c 34 (codes "\\\"") e (omega arith) refl (small_utf8 (codes "\\\"") refl)
  | inr a ↦ elim (equal_or c 92) [
    | inl e ↦ escape_utf8 c 92 (codes "\\\\") e (omega arith) refl (small_utf8 (codes "\\\\") refl)
    | inr b ↦ elim (equal_or c 10) [
      | inl e ↦ escape_utf8 c 10 (codes "\\n") e (omega arith) refl (small_utf8 (codes "\\n") refl)
      | inr d ↦ elim (equal_or c 9) [
        | inl e ↦ escape_utf8 c 9 (codes "\\t") e (omega arith) refl (small_utf8 (codes "\\t") refl)
        | inr f ↦ elim (equal_or c 13) [
          | inl e ↦ escape_utf8 c 13 (codes "\\r") e (omega arith) refl (small_utf8 (codes "\\r") refl)
          | inr g ↦ subst IsUtf8 (sym (plain_character c a b d f g)) (one_utf8 c h)
        ]
      ]
    ]
  ]
]

characters_utf8 : (cs : List ℕ) → scalars cs ≡ true → IsUtf8 (flat_map escaped (encodes cs))
characters_utf8 [] h = IsUtf8-nil
characters_utf8 (c ∷ cs) h =
    let k = both (scalar c) (scalars cs) h in
    subst IsUtf8 (sym (flat_map-append escaped (encode c) (encodes cs))) (IsUtf8-append _ _ (character_utf8 c k.0) (characters_utf8 cs k.1))

text_utf8 : (text : List ℕ) → IsUtf8 text → IsUtf8 (flat_map escaped text)
text_utf8 text u = let P : List ℕ → Type 0 = λ bs. IsUtf8 (flat_map escaped bs) in subst P u.1.1 (characters_utf8 u.0 u.1.0)

-- parts with commas between them, in braces
abbrev AllUtf8 : List (List ℕ) → Type 0
AllUtf8 [] = Unit {0}
AllUtf8 (x ∷ xs) = IsUtf8 x × AllUtf8 xs

more_utf8 : (xs : List (List ℕ)) → AllUtf8 xs → IsUtf8 (more_after (codes ", ") xs)
more_utf8 [] h = IsUtf8-nil
more_utf8 (x ∷ xs) h = IsUtf8-append (codes ", ") _ (small_utf8 (codes ", ") refl) (IsUtf8-append x _ h.0 (more_utf8 xs h.1))

separated_utf8 : (xs : List (List ℕ)) → AllUtf8 xs → IsUtf8 (separated_by (codes ", ") xs)
separated_utf8 [] h = IsUtf8-nil
separated_utf8 (x ∷ xs) h = IsUtf8-append x _ h.0 (more_utf8 xs h.1)

braces_utf8 : (xs : List (List ℕ)) → AllUtf8 xs → IsUtf8 (in_braces xs)
braces_utf8 xs h = IsUtf8-append (codes "{") _ (small_utf8 (codes "{") refl) (IsUtf8-append _ (codes "}") (separated_utf8 xs h) (small_utf8 (codes "}") refl))

mutual
  value_utf8 : (v : Value) → IsWritable v → HasTexts v → IsUtf8 (printed v)
  value_utf8 (val.Int n) h t = int_utf8 n h
  value_utf8 (val.Bool true) h t = (small_utf8 (codes "true") refl)
  value_utf8 (val.Bool false) h t = (small_utf8 (codes "false") refl)
  value_utf8 (val.Words text) h t = IsUtf8-append (codes "\"") _ (small_utf8 (codes "\"") refl) (IsUtf8-append _ (codes "\"") (text_utf8 text t) (small_utf8 (codes "\"") refl))
  value_utf8 (val.Array vs) h t = braces_utf8 (each_printed vs) (values_utf8 vs h t)
  value_utf8 (val.Record fs) h t = braces_utf8 (each_named fs) (fields_utf8 fs h.0.named h.1 t)

  values_utf8 : (vs : Values) → AreWritable vs → HaveTexts vs → AllUtf8 (each_printed vs)
  values_utf8 no_values h t = tt
  values_utf8 (value_then v vs) h t = (value_utf8 v h.0 t.0, values_utf8 vs h.1 t.1)

  fields_utf8 : (fs : Named) → All IsName (names (fields_of fs)) → HaveWritable fs → FieldsHaveTexts fs → AllUtf8 (each_named fs)
  fields_utf8 val.no_fields n h t = tt
  fields_utf8 (val.field_then name v fs) n h t = (
    IsUtf8-append name _ (name_utf8 name (n 0 [] (omega arith))) (IsUtf8-append (codes " = ") _ (small_utf8 (codes " = ") refl) (value_utf8 v h.0 t.0)),
    fields_utf8 fs (λ i d short. n (suc i) d (omega arith)) h.1 t.1,
  )

pub printed_utf8 : (v : Value) → IsTokenValue v → IsUtf8 (printed v)
printed_utf8 v h = value_utf8 v h.written h.texts
