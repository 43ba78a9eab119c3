-- The text that a type prints as.
use Rattle.std.specs.Prelude.{ℕ, List, [], ◌∷◌, ◌++◌, codes}
use Rattle.pt_value.specs.Printed.{in_braces}
use Rattle.pt_datatypes.specs.Datatype.{Datatype, Unknown, Int, Boolean, Words, Array, Record, General, FieldTypes, no_fields, field_then}

-- the base types by their words, an array as `arrayType(int)`, a record as `{a = int, b = string}`
abbrev mutual
  pub printed : Datatype → List ℕ
  printed Unknown = codes "unknown"
  printed Int = codes "int"
  printed Boolean = codes "boolean"
  printed Words = codes "string"
  printed (Array t) = codes "arrayType(" ++ (printed t ++ codes ")")
  printed (Record fs) = in_braces (each_named fs)
  printed General = codes "general"

  -- the text of each field of a record
  pub each_named : FieldTypes → List (List ℕ)
  each_named no_fields = []
  each_named (field_then n t fs) = (n ++ (codes " = " ++ printed t)) ∷ each_named fs

-- a field: its name, and its type behind an equals sign
abbrev pub printed_field : List ℕ → Datatype → List ℕ
printed_field n t = n ++ (codes " = " ++ printed t)
