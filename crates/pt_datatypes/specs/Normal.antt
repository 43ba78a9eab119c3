-- Normal forms: an array or a record with a general part, more than 8 deep, or with more than 1,024 nodes is general (by the profile).
use Rattle.std.specs.Prelude.{◌≡◌, Bool, true, false, ◌&&◌, leb, if◌then◌else◌}
use Rattle.pt_datatypes.specs.Datatype.{Datatype, Unknown, Int, Boolean, Words, Array, Record, General, FieldTypes, no_fields, field_then, depth, nodes}

-- no part is general
abbrev mutual
  pub is_plain : Datatype → Bool
  is_plain Unknown = true
  is_plain Int = true
  is_plain Boolean = true
  is_plain Words = true
  is_plain (Array t) = is_plain t
  is_plain (Record fs) = are_plain fs
  is_plain General = false

  pub are_plain : FieldTypes → Bool
  are_plain no_fields = true
  are_plain (field_then n t fs) = is_plain t && are_plain fs

-- every type but general: no part is general, and it is within the limits
abbrev pub is_proper : Datatype → Bool
is_proper t = is_plain t && (leb (depth t) 8 && leb (nodes t) 1024)

-- the type itself where it is proper, else general
abbrev pub normal : Datatype → Datatype
normal t = if is_proper t then t else General

-- types are normal forms
abbrev pub IsType : Datatype → Type 0
IsType t = normal t ≡ t

-- the array of a type, and the record of some
abbrev pub array_of : Datatype → Datatype
array_of t = normal (Array t)

abbrev pub record_of : FieldTypes → Datatype
record_of fs = normal (Record fs)

-- fields with the normal forms of their types
abbrev pub normal_fields : FieldTypes → FieldTypes
normal_fields no_fields = no_fields
normal_fields (field_then n t fs) = field_then n (normal t) (normal_fields fs)
