-- Joins: the least type above two.
use Rattle.std.specs.Prelude.{Bool, true, false, ◌&&◌, if◌then◌else◌}
use Rattle.std.specs.Str.{bytes_eq}
use Rattle.pt_datatypes.specs.Datatype.{Datatype, Unknown, Int, Boolean, Words, Array, Record, General, FieldTypes, no_fields, field_then}
use Rattle.pt_datatypes.specs.Normal.{normal, IsType}
use Rattle.pt_datatypes.specs.Order.{IsBelow}

-- fields of the same names, in their order
abbrev pub same_names : FieldTypes → FieldTypes → Bool
same_names no_fields no_fields = true
same_names (field_then m s fs) (field_then n t gs) = bytes_eq m n && same_names fs gs
same_names fs gs = false

-- the join part by part, with general where two parts have no other
abbrev mutual
  pub joined : Datatype → Datatype → Datatype
  joined Unknown t = t
  joined s Unknown = s
  joined Int Int = Int
  joined Boolean Boolean = Boolean
  joined Words Words = Words
  joined (Array s) (Array t) = Array (joined s t)
  joined (Record fs) (Record gs) = if same_names fs gs then Record (joined_fields fs gs) else General
  joined s t = General

  -- fields of the same names joined one by one
  pub joined_fields : FieldTypes → FieldTypes → FieldTypes
  joined_fields no_fields gs = no_fields
  joined_fields fs no_fields = fs
  joined_fields (field_then m s fs) (field_then n t gs) = field_then m (joined s t) (joined_fields fs gs)

-- the join of two types
abbrev pub join : Datatype → Datatype → Datatype
join s t = normal (joined s t)

-- j is the join of two types: above both, and below each type that is
pub record IsJoin (s t j : Datatype) : Type 0 where
  pub is_type : IsType j
  pub first : IsBelow s j
  pub second : IsBelow t j
  pub least : (u : Datatype) → IsType u → IsBelow s u → IsBelow t u → IsBelow j u
