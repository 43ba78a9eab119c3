use Rattle.std.proofs.Common.{◌≡◌, ◌++◌, take, map}
use Rattle.pt_value.specs.Token.{value_of, entry_of}
use Rattle.pt_value.proofs.Texts.{array_body, record_body}
use Rattle.pt_value.proofs.+writes.Given as goal

abbrev pub invariant-fields::Fields::write-loop-index :
    goal.invariant-fields::Fields::write-loop-index
invariant-fields::Fields::write-loop-index l =
    (map entry_of l.field-items ≡ l.self) × (l.out.items ≡ l.initial.out.items ++ record_body (take l.index l.field-items))

abbrev pub invariant-items::Items::write-loop-index : goal.invariant-items::Items::write-loop-index
invariant-items::Items::write-loop-index l =
    (map value_of l.token-items ≡ l.self) × (l.out.items ≡ l.initial.out.items ++ array_body (take l.index l.token-items))
