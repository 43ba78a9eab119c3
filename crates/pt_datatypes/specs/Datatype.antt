-- The types of what passes at a port (the book, "The Type System").
use Rattle.std.specs.Prelude.{◌≡◌, ℕ, suc, ◌+◌, List, [], ◌∷◌, max, refl}
use Rattle.std.proofs.Common.{ap}

-- a type: no token known yet, the base types, arrays, records, and that of all tokens
mutual
  pub data Datatype : Type 0 where
    Unknown : Datatype
    Int : Datatype
    Boolean : Datatype
    Words : Datatype
    Array : Datatype → Datatype
    Record : FieldTypes → Datatype
    General : Datatype

  -- the fields of a record, each a name and a type
  pub data FieldTypes : Type 0 where
    no_fields : FieldTypes
    field_then : List ℕ → Datatype → FieldTypes → FieldTypes

-- the fields of a record, as a list and back
abbrev pub types_of : List (List ℕ × Datatype) → FieldTypes
types_of [] = no_fields
types_of (f ∷ fs) = field_then f.0 f.1 (types_of fs)

abbrev pub fields_of : FieldTypes → List (List ℕ × Datatype)
fields_of no_fields = []
fields_of (field_then n t fs) = (n, t) ∷ fields_of fs

pub fields_of-types_of : (fs : List (List ℕ × Datatype)) → fields_of (types_of fs) ≡ fs
fields_of-types_of [] = refl
fields_of-types_of (f ∷ fs) = ap (λ gs. f ∷ gs) (fields_of-types_of fs)

pub types_of-fields_of : (fs : FieldTypes) → types_of (fields_of fs) ≡ fs
types_of-fields_of no_fields = refl
types_of-fields_of (field_then n t fs) = ap (field_then n t) (types_of-fields_of fs)

-- how deep arrays and records stand in one another: `arrayType(int)` is 1 deep
abbrev mutual
  pub depth : Datatype → ℕ
  depth Unknown = 0
  depth Int = 0
  depth Boolean = 0
  depth Words = 0
  depth (Array t) = suc (depth t)
  depth (Record fs) = suc (depth_of_fields fs)
  depth General = 0

  pub depth_of_fields : FieldTypes → ℕ
  depth_of_fields no_fields = 0
  depth_of_fields (field_then n t fs) = max (depth t) (depth_of_fields fs)

-- the nodes of a type, itself one of them: `arrayType(int)` has 2
abbrev mutual
  pub nodes : Datatype → ℕ
  nodes Unknown = 1
  nodes Int = 1
  nodes Boolean = 1
  nodes Words = 1
  nodes (Array t) = 1 + nodes t
  nodes (Record fs) = 1 + nodes_of_fields fs
  nodes General = 1

  pub nodes_of_fields : FieldTypes → ℕ
  nodes_of_fields no_fields = 0
  nodes_of_fields (field_then n t fs) = nodes t + nodes_of_fields fs
