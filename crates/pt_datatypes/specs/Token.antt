-- The types of tokens.
use Rattle.std.specs.Prelude.{ℕ, List, map, Bool, true, ◌&&◌}
use Rattle.pt_value.specs.Value as token
use Rattle.pt_value.specs.Value.{Value, Values, no_values, value_then, Named}
use Rattle.pt_datatypes.specs.Datatype.{Datatype, Unknown, Int, Boolean, Words, FieldTypes, no_fields, field_then}
use Rattle.pt_datatypes.specs.Normal.{array_of, record_of}
use Rattle.pt_datatypes.specs.Join.{join}
use Rattle.pt_datatypes.specs.Order.{is_below}

-- an array has the join of the types of its elements, which is unknown where it has none; a record has the types of its fields
abbrev mutual
  pub type_of_value : Value → Datatype
  type_of_value (token.Int n) = Int
  type_of_value (token.Bool b) = Boolean
  type_of_value (token.Words xs) = Words
  type_of_value (token.Array vs) = array_of (join_of vs)
  type_of_value (token.Record fs) = record_of (field_types fs)

  -- the join of the types of some values
  pub join_of : Values → Datatype
  join_of no_values = Unknown
  join_of (value_then v vs) = join (type_of_value v) (join_of vs)

  -- the names and types of the fields of a record
  pub field_types : Named → FieldTypes
  field_types token.no_fields = no_fields
  field_types (token.field_then n v fs) = field_then n (type_of_value v) (field_types fs)

-- the type of each of some values is below one
abbrev pub each_below : Values → Datatype → Bool
each_below no_values t = true
each_below (value_then v vs) t = is_below (type_of_value v) t && each_below vs t

-- the names of some fields, with the types of their values
abbrev pub typed_fields : List (List ℕ × Value) → List (List ℕ × Datatype)
typed_fields fs = map (λ f. (f.0, type_of_value f.1)) fs
