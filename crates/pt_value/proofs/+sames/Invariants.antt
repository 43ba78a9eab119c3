use Rattle.std.proofs.Common.{◌≡◌, take, length}
use Rattle.pt_value.proofs.+sames.Given as goal

abbrev pub invariant-fields::Fields::same-loop-mine : goal.invariant-fields::Fields::same-loop-mine
invariant-fields::Fields::same-loop-mine l =
    (goal.iterator-fields::Fields::same-loop-mine).can_next l.mine-iterator ×
    (goal.iterator-fields::Fields::same-loop-mine).is_finite l.mine-iterator ×
    (take (length l.yielded) l.self ≡ take (length l.yielded) l.other)

abbrev pub invariant-items::Items::same-loop-mine : goal.invariant-items::Items::same-loop-mine
invariant-items::Items::same-loop-mine l =
    (goal.iterator-items::Items::same-loop-mine).can_next l.mine-iterator ×
    (goal.iterator-items::Items::same-loop-mine).is_finite l.mine-iterator ×
    (take (length l.yielded) l.self ≡ take (length l.yielded) l.other)
