-- How far up a type stands. Each strict step up raises the rank, and no type has more than 1,025: so types have no endless chain upwards.
use Rattle.std.specs.Prelude.{ℕ, ◌+◌, ◌-◌, List}
use Rattle.std.specs.List.{sum_by}
use Rattle.pt_datatypes.specs.Datatype.{Datatype, Unknown, Int, Boolean, Words, Array, Record, General, FieldTypes, no_fields, field_then}

-- the number of its parts that are known
abbrev mutual
  pub rank : Datatype → ℕ
  rank Unknown = 0
  rank Int = 1
  rank Boolean = 1
  rank Words = 1
  rank (Array t) = 1 + rank t
  rank (Record fs) = 1 + rank_of_fields fs
  rank General = 1025

  pub rank_of_fields : FieldTypes → ℕ
  rank_of_fields no_fields = 0
  rank_of_fields (field_then n t fs) = rank t + rank_of_fields fs

-- how many steps up some types may take at most
abbrev pub room : List Datatype → ℕ
room types = sum_by (λ t. 1025 - rank t) types
