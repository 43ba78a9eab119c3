-- The text that a value prints as.
use Rattle.std.specs.Prelude.{◌≡◌, ℕ, zero, suc, List, [], ◌∷◌, ◌++◌, true, false, codes, flat_map, if◌then◌else◌, ◌==◌}
use Rattle.std.specs.Prelude.{Bool as Truth}
use Rattle.std.specs.Fmt.{signed_decimal}
use Rattle.pt_value.specs.Value.{Value, Int, Bool, Words, Array, Record, Values, no_values, value_then, Named, no_fields, field_then}

-- a byte of a text, as it stands between the quotes: a quote, a backslash, LF, tab and CR are escaped
abbrev pub escaped : ℕ → List ℕ
escaped c = if c == 34 then codes "\\\"" else (if c == 92 then codes "\\\\" else (if c == 10 then codes "\\n" else (if c == 9 then codes "\\t" else (if c == 13 then codes "\\r" else c ∷ []))))

-- a text in quotes
abbrev pub quoted : List ℕ → List ℕ
quoted xs = codes "\"" ++ (flat_map escaped xs ++ codes "\"")

-- texts with a separator between each two
abbrev pub more_after : List ℕ → List (List ℕ) → List ℕ
more_after separator [] = []
more_after separator (x ∷ xs) = separator ++ (x ++ more_after separator xs)

abbrev pub separated_by : List ℕ → List (List ℕ) → List ℕ
separated_by separator [] = []
separated_by separator (x ∷ xs) = x ++ more_after separator xs

-- what stands before the part of a number
abbrev pub separator_before : ℕ → List ℕ
separator_before zero = []
separator_before (suc n) = codes ", "

-- texts in braces, with commas between them
abbrev pub in_braces : List (List ℕ) → List ℕ
in_braces xs = codes "{" ++ (separated_by (codes ", ") xs ++ codes "}")

abbrev pub printed_truth : Truth → List ℕ
printed_truth false = codes "false"
printed_truth true = codes "true"

-- an integer in decimal, a truth value by its word, a text in quotes, an array as `{1, 2}`, a record as `{x = 1, y = 2}`
abbrev mutual
  pub printed : Value → List ℕ
  printed (Int n) = signed_decimal n
  printed (Bool b) = printed_truth b
  printed (Words xs) = quoted xs
  printed (Array vs) = in_braces (each_printed vs)
  printed (Record fs) = in_braces (each_named fs)

  -- the text of each part of an array
  pub each_printed : Values → List (List ℕ)
  each_printed no_values = []
  each_printed (value_then v vs) = printed v ∷ each_printed vs

  -- the text of each field of a record
  pub each_named : Named → List (List ℕ)
  each_named no_fields = []
  each_named (field_then n v fs) = (n ++ (codes " = " ++ printed v)) ∷ each_named fs

-- a field: its name, and its value behind an equals sign
abbrev pub printed_field : List ℕ → Value → List ℕ
printed_field n v = n ++ (codes " = " ++ printed v)

-- all that was there is there, and some bytes may stand behind it
pub record IsExtended (old new : List ℕ) : Type 0 where
  pub more : List ℕ
  pub is : new ≡ old ++ more
