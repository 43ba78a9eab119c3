-- The types of ports by name.
use Rattle.std.specs.Prelude.{ℕ, List, [], ◌∷◌, Option, Some, None, bytes_eq, if◌then◌else◌}
use Rattle.pt_datatypes.specs.Datatype.{Datatype}

-- the first type under a name
unfoldable pub type_named : List ℕ → List (List ℕ × Datatype) → Option Datatype
type_named name [] = None
type_named name (entry ∷ entries) = if bytes_eq entry.0 name then Some entry.1 else type_named name entries

-- a name with its type before others, where each has one
abbrev pub with_typed : List ℕ → Option Datatype → Option (List (List ℕ × Datatype)) → Option (List (List ℕ × Datatype))
with_typed name (Some t) (Some typed) = Some ((name, t) ∷ typed)
with_typed name (Some t) None = None
with_typed name None typed = None

-- some names with their types, if each has one
abbrev pub typed_names : List (List ℕ × Datatype) → List (List ℕ) → Option (List (List ℕ × Datatype))
typed_names types [] = Some []
typed_names types (name ∷ names) = with_typed name (type_named name types) (typed_names types names)
