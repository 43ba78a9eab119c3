-- What an actor is started from: parameters and ports by name.
use Rattle.std.specs.Prelude.{ℕ, List, [], ◌∷◌, Bool, Option, Some, None, ℤ, int_le, ◌&&◌, bytes_eq, if◌then◌else◌}
use Rattle.pt_value.specs.declared.token.Token.{Token}
use Rattle.pt_value.specs.declared.token.Token.TheVariants.{Int, Bool as Truth}

-- the first value under a name
unfoldable pub value_under : List ℕ → List (List ℕ × Token) → Option Token
value_under name [] = None
value_under name (entry ∷ entries) = if bytes_eq entry.0 name then Some entry.1 else value_under name entries

-- the integer that it is, or another where there is none; nothing where it is of another kind
abbrev pub as_int : ℤ → Option Token → Option ℤ
as_int default None = Some default
as_int default (Some (Int n)) = Some n
as_int default (Some token) = None

abbrev pub int_or : List ℕ → ℤ → List (List ℕ × Token) → Option ℤ
int_or name default values = as_int default (value_under name values)

-- a number, where it lies in a range
abbrev pub only_within : ℤ → ℤ → Option ℤ → Option ℤ
only_within low high None = None
only_within low high (Some n) = if int_le low n && int_le n high then Some n else None

abbrev pub int_within : List ℕ → ℤ → ℤ → ℤ → List (List ℕ × Token) → Option ℤ
int_within name default low high values = only_within low high (int_or name default values)

-- the same of a truth value
abbrev pub as_bool : Bool → Option Token → Option Bool
as_bool default None = Some default
as_bool default (Some (Truth b)) = Some b
as_bool default (Some token) = None

abbrev pub bool_or : List ℕ → Bool → List (List ℕ × Token) → Option Bool
bool_or name default values = as_bool default (value_under name values)

-- the number of channels to a port, none where it isn't listed
unfoldable pub channels_to : List ℕ → List (List ℕ × ℕ) → ℕ
channels_to name [] = 0
channels_to name (entry ∷ entries) = if bytes_eq entry.0 name then entry.1 else channels_to name entries

-- the names of the ports but one, in order
unfoldable pub names_but : List ℕ → List (List ℕ × ℕ) → List (List ℕ)
names_but other [] = []
names_but other (entry ∷ entries) = if bytes_eq entry.0 other then names_but other entries else entry.0 ∷ names_but other entries
