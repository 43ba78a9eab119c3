-- The parts of an array or record are lower than it.
use Rattle.std.specs.Prelude.{◌≤◌, max, List, [], ◌∷◌, map}
use Rattle.std.proofs.Common.{arith}
use denote.Param.Weighed.{most}
use Rattle.pt_value.specs.declared.token.Token.{Token}
use Rattle.pt_value.specs.declared.token.Token.TheVariants as token
use Rattle.pt_value.specs.declared.fields.Field.{Field}
use Rattle.pt_value.specs.declared.fields.Fields.TheDeep.{deep-Token, deep-Field}
use Rattle.pt_value.specs.Value.{height, height_of_values, height_of_named, values_of, named_of}
use Rattle.pt_value.specs.Token.{value_of, entry_of}

pub deep_le-height : (t : Token) → deep-Token t ≤ height (value_of t)
deep_le-height (token.Int n) = omega arith
deep_le-height (token.Bool b) = omega arith
deep_le-height (token.Text s) = omega arith
deep_le-height (token.Array vs) = omega arith
deep_le-height (token.Record fs) = omega arith

pub most_le-height : (ts : List Token) → max (most deep-Token ts) 0 ≤ height_of_values (values_of (map value_of ts))
most_le-height [] = omega arith
most_le-height (t ∷ ts) = omega (arith, deep_le-height t, most_le-height ts)

pub most_le-height_of_named : (fs : List Field) → max (most deep-Field fs) 0 ≤ height_of_named (named_of (map entry_of fs))
most_le-height_of_named [] = omega arith
most_le-height_of_named (f ∷ fs) = omega (arith, deep_le-height f.value, most_le-height_of_named fs)
