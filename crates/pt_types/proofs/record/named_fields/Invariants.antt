use Rattle.std.proofs.Common.{◌≡◌, ◌++◌, All, map}
use Rattle.std.specs.Vec.Iter.{into_iter_items}
use Rattle.pt_value.specs.Name.{IsName}
use Rattle.pt_types.specs.Ty.{entry_of, entry_of_pair}
use Rattle.pt_types.proofs.record.named_fields.Given as goal

abbrev pub invariant-loop-name : goal.invariant-loop-name
invariant-loop-name l =
    (goal.iterator-loop-name).can_next l.name-iterator ×
    (goal.iterator-loop-name).is_finite l.name-iterator ×
    (map entry_of l.list.items ++ map entry_of_pair (into_iter_items l.name-iterator) ≡ map entry_of_pair l.fn.fields.items) ×
    All (λ f. IsName f.name) l.list.items
