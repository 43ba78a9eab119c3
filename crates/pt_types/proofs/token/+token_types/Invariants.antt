use Rattle.std.proofs.Common.{◌≡◌, ◌≤◌, ◌+◌, ◌*◌, drop, take, map, length}
use Rattle.pt_value.specs.Value.{height, height_of_values, height_of_named, values_of, named_of}
use Rattle.pt_value.specs.Token as held
use Rattle.pt_value.specs.Token.{value_of}
use Rattle.pt_datatypes.specs.Token.{join_of, typed_fields}
use Rattle.pt_types.specs.Ty.{written, entry_of}
use Rattle.pt_types.proofs.token.+token_types.Given as goal

abbrev pub decreases-type_of_token : goal.decreases-type_of_token
decreases-type_of_token l = 3 * height (value_of l.token.now)

abbrev pub decreases-join_of : goal.decreases-join_of
decreases-join_of l = 3 * height_of_values (values_of l.items.now) + 2

abbrev pub decreases-types_of_fields : goal.decreases-types_of_fields
decreases-types_of_fields l = 3 * height_of_named (named_of l.fields.now) + 2

abbrev pub decreases-joined_with : goal.decreases-joined_with
decreases-joined_with l = 3 * height (value_of l.token.now) + 1

abbrev pub decreases-typed_field : goal.decreases-typed_field
decreases-typed_field l = 3 * height (value_of l.field.now.value) + 1

abbrev pub invariant-join_of-loop-left : goal.invariant-join_of-loop-left
invariant-join_of-loop-left l = record {
  rest : written l.joined ≡ join_of (values_of (map value_of (drop l.left l.tokens)));
  within : l.left ≤ length l.tokens;
}

abbrev pub decreases-join_of-loop-left : goal.decreases-join_of-loop-left
decreases-join_of-loop-left l = l.left

abbrev pub invariant-types_of_fields-loop-field : goal.invariant-types_of_fields-loop-field
invariant-types_of_fields-loop-field l = map entry_of l.types.items ≡ typed_fields (map held.entry_of (take l.field-index l.field-items))
