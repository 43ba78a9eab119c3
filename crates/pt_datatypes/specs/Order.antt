-- The order of types: unknown is least, general is greatest, base types aren't comparable, arrays are ordered by their elements, records of the same names field by field.
use Rattle.std.specs.Prelude.{Bool, true, false, ◌&&◌, IsTrue}
use Rattle.std.specs.Str.{bytes_eq}
use Rattle.pt_datatypes.specs.Datatype.{Datatype, Unknown, Int, Boolean, Words, Array, Record, General, FieldTypes, no_fields, field_then}

abbrev mutual
  pub is_below : Datatype → Datatype → Bool
  is_below Unknown t = true
  is_below s General = true
  is_below Int Int = true
  is_below Boolean Boolean = true
  is_below Words Words = true
  is_below (Array s) (Array t) = is_below s t
  is_below (Record fs) (Record gs) = are_below fs gs
  is_below s t = false

  pub are_below : FieldTypes → FieldTypes → Bool
  are_below no_fields no_fields = true
  are_below (field_then m s fs) (field_then n t gs) = (bytes_eq m n && is_below s t) && are_below fs gs
  are_below fs gs = false

abbrev pub IsBelow : Datatype → Datatype → Type 0
IsBelow s t = IsTrue (is_below s t)
