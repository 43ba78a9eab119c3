use Rattle.std.proofs.Common.{◌≡◌, map, drop}
use Rattle.std.specs.Prelude.{option_map}
use Rattle.pt_value.specs.Token.{value_of}
use Rattle.pt_datatypes.specs.Datatype.{Unknown}
use Rattle.pt_types.specs.Ty.{type_of}
use Rattle.pt_inequalities.specs.Inequalities.{joined_with}
use Rattle.pt_places.proofs.inequalities.joined.Given as goal

abbrev pub invariant-loop-token : goal.invariant-loop-token
invariant-loop-token l = joined_with Unknown (map (option_map value_of) l.tokens) ≡ joined_with (type_of l.ty) (map (option_map value_of) (drop l.token-index l.tokens))
