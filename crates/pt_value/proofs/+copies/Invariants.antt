use Rattle.std.proofs.Common.{◌≡◌, take, map}
use Rattle.pt_value.specs.Token.{value_of, entry_of}
use Rattle.pt_value.proofs.+copies.Given as goal

abbrev pub invariant-fields::Fields::copy-loop-field :
    goal.invariant-fields::Fields::copy-loop-field
invariant-fields::Fields::copy-loop-field l =
    (l.fields.items ≡ take l.field-index l.field-items) × (map entry_of l.field-items ≡ l.self)

abbrev pub invariant-items::Items::copy-loop-token : goal.invariant-items::Items::copy-loop-token
invariant-items::Items::copy-loop-token l =
    (l.tokens.items ≡ take l.token-index l.token-items) × (map value_of l.token-items ≡ l.self)
