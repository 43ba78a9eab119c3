use Rattle.std.proofs.Common.{◌≡◌, ◌+◌, ◌≤◌, drop, map, min}
use Rattle.pt_value.specs.Value.{size_of_values, values_of, size_of_named, named_of}
use Rattle.pt_value.specs.Token.{value_of, entry_of}
use Rattle.pt_value.proofs.+sizes.Given as goal

abbrev pub invariant-fields::Fields::size-loop-field :
    goal.invariant-fields::Fields::size-loop-field
invariant-fields::Fields::size-loop-field l =
    (l.size ≤ 18446744073709551615) × (min (l.size + size_of_named (named_of (map entry_of (drop l.field-index l.field-items)))) 18446744073709551615 ≡ min (size_of_named (named_of l.self)) 18446744073709551615)

abbrev pub invariant-items::Items::size-loop-token : goal.invariant-items::Items::size-loop-token
invariant-items::Items::size-loop-token l =
    (l.size ≤ 18446744073709551615) × (min (l.size + size_of_values (values_of (map value_of (drop l.token-index l.token-items)))) 18446744073709551615 ≡ min (size_of_values (values_of l.self)) 18446744073709551615)
