-- The values that a token may have: what its type keeps.
use Rattle.std.specs.Prelude.{ℕ, List}
use Rattle.std.specs.Str.{IsUtf8}
use Rattle.pt_value.specs.Value as val
use Rattle.pt_value.specs.Value.{Value, Values, no_values, value_then, Named}
use Rattle.pt_expr_print.specs.Literal.{IsWritable}

-- each text is UTF-8, at each level
abbrev mutual
  pub HasTexts : Value → Type 0
  HasTexts (val.Int n) = Unit {0}
  HasTexts (val.Bool b) = Unit {0}
  HasTexts (val.Words text) = IsUtf8 text
  HasTexts (val.Array vs) = HaveTexts vs
  HasTexts (val.Record fs) = FieldsHaveTexts fs

  pub HaveTexts : Values → Type 0
  HaveTexts no_values = Unit {0}
  HaveTexts (value_then v vs) = HasTexts v × HaveTexts vs

  pub FieldsHaveTexts : Named → Type 0
  FieldsHaveTexts val.no_fields = Unit {0}
  FieldsHaveTexts (val.field_then name v fs) = HasTexts v × FieldsHaveTexts fs

-- a value that some token has: its integers are of 64 bits, its texts UTF-8, and the fields of each record ascend by name
pub record IsTokenValue (v : Value) : Type 0 where
  pub written : IsWritable v
  pub texts : HasTexts v
