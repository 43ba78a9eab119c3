-- The record of some fields, in whichever order they are written.
use Rattle.std.specs.Prelude.{ℕ, List, [], ◌∷◌, length, Bool, false, ◌&&◌, ◌||◌, ◌==◌, if◌then◌else◌, nat_le, count_by, not}
use Rattle.std.specs.List.{list_all}
use Rattle.std.specs.Str.{bytes_eq}
use Rattle.std.specs.Char.{is_ascii_alphabetic, is_ascii_alphanumeric}
use Rattle.std.specs.Ordering.{nat_cmp, is_lt}
use Rattle.std.specs.Cmp.Lexicographic.{slice_cmp}
use Rattle.pt_value.specs.Name.{is_reserved}
use Rattle.pt_value.specs.Value.{Value, Record, named_of}
use Rattle.pt_value.specs.Record.{names}
use Rattle.pt_language.specs.Outcome.{Outcome, Gives, Wrong}

-- the first name comes before the second, byte by byte
abbrev pub is_below : List ℕ → List ℕ → Bool
is_below m n = is_lt (slice_cmp nat_cmp m n)

-- the fields with one more, before the first whose name is greater
abbrev pub put : List ℕ × Value → List (List ℕ × Value) → List (List ℕ × Value)
put f [] = f ∷ []
put f (g ∷ gs) = if is_below f.0 g.0 then f ∷ g ∷ gs else g ∷ put f gs

-- the fields by the order of their names
abbrev pub by_name : List (List ℕ × Value) → List (List ℕ × Value)
by_name [] = []
by_name (f ∷ fs) = put f (by_name fs)

-- of the form [A-Za-z_][A-Za-z0-9_]*
abbrev pub has_name_form : List ℕ → Bool
has_name_form [] = false
has_name_form (c ∷ cs) = (is_ascii_alphabetic c || c == 95) && list_all (λ d. is_ascii_alphanumeric d || d == 95) cs

-- a name: of that form, with at most 64 bytes, and none of the words that expressions reserve
abbrev pub is_name : List ℕ → Bool
is_name n = has_name_form n && nat_le (length n) 64 && not (is_reserved n)

-- no name stands there twice
abbrev pub differ : List (List ℕ) → Bool
differ ns = list_all (λ n. nat_le (count_by (bytes_eq n) ns) 1) ns

-- one name at least, and no name twice
abbrev pub make_record : List (List ℕ) → Bool
make_record [] = false
make_record (n ∷ ns) = list_all is_name (n ∷ ns) && differ (n ∷ ns)

-- the record of these fields, where they make one
abbrev pub record_of : List (List ℕ × Value) → Outcome Value
record_of fs = if make_record (names fs) then Gives (Record (named_of (by_name fs))) else Wrong
