-- The fields of a record literal as the program holds them.
use Rattle.std.specs.Prelude.{ℕ, List}
use Rattle.pt_types.specs.declared.ty.Ty.{Ty}
use Rattle.pt_datatypes.specs.Datatype.{Datatype}
use Rattle.pt_types.specs.Ty.{type_of}

-- the name and the type of a field
abbrev pub typed_entry : List ℕ × Ty → List ℕ × Datatype
typed_entry f = (f.0, type_of f.1)
