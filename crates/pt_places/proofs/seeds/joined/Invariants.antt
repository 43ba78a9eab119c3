use Rattle.std.proofs.Common.{◌≡◌, map, drop}
use Rattle.pt_value.specs.Token.{value_of}
use Rattle.pt_value.specs.Value.{values_of}
use Rattle.pt_datatypes.specs.Datatype.{Unknown}
use Rattle.pt_types.specs.Ty.{type_of}
use Rattle.pt_inequalities.specs.Rows.{joined_values}
use Rattle.pt_places.proofs.seeds.joined.Given as goal

abbrev pub invariant-loop-token : goal.invariant-loop-token
invariant-loop-token l = joined_values Unknown (values_of (map value_of l.tokens)) ≡ joined_values (type_of l.ty) (values_of (map value_of (drop l.token-index l.tokens)))
