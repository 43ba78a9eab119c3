-- Terms of types over type variables (the book, "The Type System").
use Rattle.std.specs.Prelude.{ℕ, List, [], ◌∷◌, map, Option, Some, None, Bool, true, false, ◌&&◌, bytes_eq, if◌then◌else◌}
use Rattle.pt_datatypes.specs.Datatype.{Datatype}
use Rattle.pt_typing.specs.declared.variable.Variable.{Variable}
use Rattle.pt_datatypes.specs.Normal.{array_of}
use Rattle.pt_language.specs.Tree.{Tree}
use Rattle.pt_language.specs.Typing.{Typing, Has, Clash, or_general}
use Rattle.pt_language.specs.Types.{Types, or_else}
use Rattle.pt_language.specs.Rule.{type_or_general}
use Rattle.pt_language.specs.TreeType as trees

-- the type of a variable, a type, the array of a variable, the elements of one, a field of one, the record of variables under
-- names, or the type of a tree whose names are variables, or else have types
pub data Term (V : Type 0) : Type 0 where
  Same : (of : V) → Term V
  Fixed : (type : Datatype) → Term V
  ArrayOf : (element : V) → Term V
  ElementOf : (array : V) → Term V
  FieldOf : (whole : V) (name : List ℕ) → Term V
  RecordOf : (fields : List (List ℕ × V)) → Term V
  TreeOf : (tree : Tree) (ports : List (List ℕ × V)) (known : List (List ℕ × Datatype)) → Term V

-- the types of names, the last of a name before those before it
abbrev pub named : {V : Type 0} → (V → Datatype) → List (List ℕ × V) → Types
named f [] name = None
named f (x ∷ xs) name = or_else (named f xs name) (if bytes_eq x.0 name then Some (f x.1) else None)

abbrev pub itself : Datatype → Datatype
itself t = t

-- variables before types
abbrev pub names_types : {V : Type 0} → (V → Datatype) → List (List ℕ × V) → List (List ℕ × Datatype) → Types
names_types f ports known name = or_else (named f ports name) (named itself known name)

abbrev pub entry_in : {V : Type 0} → (V → Datatype) → List ℕ × V → List ℕ × Datatype
entry_in f x = (x.0, f x.1)

-- the type that a term has where its variables have types. The elements of what is no array, a field of what has none, and a tree
-- without a type are general, and so is a record whose names make none
abbrev pub meaning : {V : Type 0} → (V → Datatype) → Term V → Datatype
meaning f (Same v) = f v
meaning f (Fixed t) = t
meaning f (ArrayOf v) = array_of (f v)
meaning f (ElementOf v) = or_general (trees.element (f v))
meaning f (FieldOf v name) = or_general (trees.field name (f v))
meaning f (RecordOf fs) = or_general (trees.recorded (map (entry_in f) fs))
meaning f (TreeOf t ports known) = type_or_general (names_types f ports known) t

abbrev pub is_type : Typing Datatype → Bool
is_type (Has t) = true
is_type Clash = false

-- the names of a tree are bound, and there is no clash
abbrev pub has_type : Types → Tree → Bool
has_type types t = trees.are_bound types t && is_type (trees.tree_type types t)
