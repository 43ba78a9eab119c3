use Rattle.std.proofs.Common.{◌≡◌, ◌+◌, ◌*◌, drop, map}
use Rattle.pt_value.specs.Value.{height, height_of_values, height_of_named, values_of, named_of}
use Rattle.pt_value.specs.Token as held
use Rattle.pt_value.specs.Token.{value_of}
use Rattle.pt_datatypes.specs.Datatype.{types_of}
use Rattle.pt_datatypes.specs.Order.{are_below}
use Rattle.pt_datatypes.specs.Token.{each_below, field_types}
use Rattle.pt_types.specs.Ty.{written, entry_of}
use Rattle.pt_types.proofs.token.+withins.Given as goal

abbrev pub decreases-is_within : goal.decreases-is_within
decreases-is_within l = 2 * height (value_of l.token.now)

abbrev pub decreases-are_within : goal.decreases-are_within
decreases-are_within l = 2 * height_of_values (values_of l.items.now) + 1

abbrev pub decreases-fields_within : goal.decreases-fields_within
decreases-fields_within l = 2 * height_of_named (named_of l.fields.now) + 1

abbrev pub invariant-are_within-loop-token : goal.invariant-are_within-loop-token
invariant-are_within-loop-token l = each_below (values_of (map value_of (drop l.token-index l.token-items))) (written l.ty) ≡ each_below (values_of l.items) (written l.ty)

abbrev pub invariant-fields_within-loop-index : goal.invariant-fields_within-loop-index
invariant-fields_within-loop-index l =
    are_below (field_types (named_of (map held.entry_of (drop l.index l.fields)))) (types_of (map entry_of (drop l.index l.types))) ≡ are_below (field_types (named_of l.fn.fields)) (types_of l.fn.types)
