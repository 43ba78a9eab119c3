-- The data that tokens carry: integers, truth values, texts, arrays and records.
use Rattle.std.specs.Prelude.{◌≡◌, ℕ, ℤ, suc, ◌+◌, List, [], ◌∷◌, length, max, refl}
use Rattle.std.specs.Prelude.{Bool as Truth}
use Rattle.std.proofs.Common.{ap}

-- what a token says
mutual
  pub data Value : Type 0 where
    Int : ℤ → Value
    Bool : Truth → Value
    Words : List ℕ → Value
    Array : Values → Value
    Record : Named → Value

  -- the parts of an array
  pub data Values : Type 0 where
    no_values : Values
    value_then : Value → Values → Values

  -- the fields of a record, each a name and a value
  pub data Named : Type 0 where
    no_fields : Named
    field_then : List ℕ → Value → Named → Named

-- the parts of an array, as a list and back
abbrev pub values_of : List Value → Values
values_of [] = no_values
values_of (v ∷ vs) = value_then v (values_of vs)

abbrev pub list_of : Values → List Value
list_of no_values = []
list_of (value_then v vs) = v ∷ list_of vs

-- the fields of a record, as a list and back
abbrev pub named_of : List (List ℕ × Value) → Named
named_of [] = no_fields
named_of (f ∷ fs) = field_then f.0 f.1 (named_of fs)

abbrev pub fields_of : Named → List (List ℕ × Value)
fields_of no_fields = []
fields_of (field_then n v fs) = (n, v) ∷ fields_of fs

pub list_of-values_of : (vs : List Value) → list_of (values_of vs) ≡ vs
list_of-values_of [] = refl
list_of-values_of (v ∷ vs) = ap (λ us. v ∷ us) (list_of-values_of vs)

pub values_of-list_of : (vs : Values) → values_of (list_of vs) ≡ vs
values_of-list_of no_values = refl
values_of-list_of (value_then v vs) = ap (value_then v) (values_of-list_of vs)

pub fields_of-named_of : (fs : List (List ℕ × Value)) → fields_of (named_of fs) ≡ fs
fields_of-named_of [] = refl
fields_of-named_of (f ∷ fs) = ap (λ gs. f ∷ gs) (fields_of-named_of fs)

pub named_of-fields_of : (fs : Named) → named_of (fields_of fs) ≡ fs
named_of-fields_of no_fields = refl
named_of-fields_of (field_then n v fs) = ap (field_then n v) (named_of-fields_of fs)

-- how deep arrays and records stand in one another
abbrev mutual
  pub height : Value → ℕ
  height (Int n) = 0
  height (Bool b) = 0
  height (Words xs) = 0
  height (Array vs) = suc (height_of_values vs)
  height (Record fs) = suc (height_of_named fs)

  pub height_of_values : Values → ℕ
  height_of_values no_values = 0
  height_of_values (value_then v vs) = max (height v) (height_of_values vs)

  pub height_of_named : Named → ℕ
  height_of_named no_fields = 0
  height_of_named (field_then n v fs) = max (height v) (height_of_named fs)

-- the size: 1 for an integer or a truth value, else 1 more than its bytes and the sizes of its parts together
abbrev mutual
  pub size : Value → ℕ
  size (Int n) = 1
  size (Bool b) = 1
  size (Words xs) = 1 + length xs
  size (Array vs) = 1 + size_of_values vs
  size (Record fs) = 1 + size_of_named fs

  pub size_of_values : Values → ℕ
  size_of_values no_values = 0
  size_of_values (value_then v vs) = size v + size_of_values vs

  pub size_of_named : Named → ℕ
  size_of_named no_fields = 0
  size_of_named (field_then n v fs) = (length n + size v) + size_of_named fs
