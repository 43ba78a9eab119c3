-- What the program's types stand for.
use Rattle.std.specs.Prelude.{ℕ, List}
use Rattle.pt_types.specs.declared.ty.Ty.{Ty}
use Rattle.pt_types.specs.declared.ty.Ty.TheVariants as ty
use Rattle.pt_types.specs.declared.record.FieldTy.{FieldTy}
use Rattle.pt_datatypes.specs.Datatype.{Datatype, Unknown, Int, Boolean, Words, Array, Record, General, types_of}
use Rattle.pt_datatypes.specs.Normal.{normal}

-- as it is written
abbrev pub written : Ty → Datatype
written ty.Unknown = Unknown
written ty.Int = Int
written ty.Boolean = Boolean
written ty.Words = Words
written (ty.Array t) = Array t
written (ty.Record fs) = Record (types_of fs)
written ty.General = General

-- the type that it stands for, which is its normal form
abbrev pub type_of : Ty → Datatype
type_of t = normal (written t)

-- the name and the type of a field
abbrev pub entry_of : FieldTy → List ℕ × Datatype
entry_of f = (f.name, written f.ty)

-- the same of a pair
abbrev pub entry_of_pair : List ℕ × Ty → List ℕ × Datatype
entry_of_pair f = (f.0, written f.1)
