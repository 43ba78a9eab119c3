-- Names, and paths made of them.
use Rattle.std.specs.Prelude.{ℕ, ◌&&◌, ◌||◌, ◌==◌, ◌-◌, nat_lt, nat_le, List, [], ◌∷◌, ◌++◌, length, slice_index, drop, Bool, true, false, codes, bytes_eq, if◌then◌else◌}
use Rattle.std.specs.List.{list_any, list_all}

-- a letter or `_`
abbrev pub is_first : ℕ → Bool
is_first c = (nat_le 97 c && nat_le c 122) || (nat_le 65 c && nat_le c 90) || (c == 95)

-- a letter, `_` or a digit
abbrev pub is_later : ℕ → Bool
is_later c = is_first c || (nat_le 48 c && nat_le c 57)

-- a letter or `_`, then letters, `_` and digits, 64 bytes in all at most
unfoldable pub is_name : List ℕ → Bool
is_name s = nat_lt 0 (length s) && nat_le (length s) 64 && is_first (slice_index s 0) && list_all is_later s

-- one of these is the text
abbrev pub is_among : List (List ℕ) → List ℕ → Bool
is_among [] s = false
is_among (k ∷ ks) s = if bytes_eq k s then true else is_among ks s

-- the words of the expression language that name nothing
abbrev pub words : List (List ℕ)
words = codes "true" ∷ codes "false" ∷ codes "abs" ∷ codes "max" ∷ codes "min" ∷ []

abbrev pub presence : List ℕ
presence = codes "_isPresent"

abbrev pub ends_in : List ℕ → List ℕ → Bool
ends_in end s = nat_le (length end) (length s) && bytes_eq (drop (length s - length end) s) end

-- a name that no port, parameter or Variable may have
unfoldable pub is_reserved : List ℕ → Bool
is_reserved s = is_among words s || ends_in presence s

-- a property of this name is there for graphical editors alone
unfoldable pub is_layout : List ℕ → Bool
is_layout s = nat_lt 0 (length s) && (slice_index s 0 == 95)

-- the path of the top
abbrev pub top_path : List ℕ
top_path = codes "."

-- the path of what has this name in the entity of that path
unfoldable pub below : List ℕ → List ℕ → List ℕ
below path name = if bytes_eq path top_path then name else path ++ codes "." ++ name

-- one of these names is this
abbrev pub has_name : List (List ℕ) → List ℕ → Bool
has_name names name = list_any (bytes_eq name) names

-- each of these names differs from those seen, and from each other
abbrev pub are_distinct_after : List (List ℕ) → List (List ℕ) → Bool
are_distinct_after seen [] = true
are_distinct_after seen (n ∷ ns) = if has_name seen n then false else are_distinct_after (seen ++ n ∷ []) ns

abbrev pub are_distinct : List (List ℕ) → Bool
are_distinct names = are_distinct_after [] names
