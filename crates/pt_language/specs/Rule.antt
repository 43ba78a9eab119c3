-- The types of names by numbers, and what a rule makes of them.
use Rattle.std.specs.Prelude.{ℕ, List, [], ◌∷◌, None, slice_get, if◌then◌else◌}
use Rattle.std.specs.Str.{bytes_eq}
use Rattle.pt_datatypes.specs.Datatype.{Datatype, General}
use Rattle.pt_language.specs.Tree.{Tree}
use Rattle.pt_language.specs.Typing.{or_general}
use Rattle.pt_language.specs.Types.{Types, or_else}
use Rattle.pt_language.specs.TreeType.{tree_type, are_bound}

-- the type at the number of a name, where there is one; of several numbers of one name the last that has a type decides
abbrev pub numbered : List (List ℕ × ℕ) → List Datatype → Types
numbered [] types name = None
numbered (f ∷ fs) types name = or_else (numbered fs types name) (if bytes_eq f.0 name then slice_get types f.1 else None)

-- the type of a tree, which is general where it is a clash or some name isn't bound
abbrev pub type_or_general : Types → Tree → Datatype
type_or_general types tree = if are_bound types tree then or_general (tree_type types tree) else General
