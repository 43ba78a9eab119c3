use Rattle.std.proofs.Common.{◌≡◌, ◌+◌, ◌*◌, ◌≤◌, length, map}
use Rattle.pt_datatypes.specs.Rank.{room}
use Rattle.pt_datatypes.specs.Rules.{IsReached}
use Rattle.pt_types.specs.Ty.{type_of}
use Rattle.pt_types.proofs.rules.raise_some.Given as goal

abbrev pub invariant-loop-index : goal.invariant-loop-index
invariant-loop-index g l =
    (length l.types.items ≡ length l.fn.types.items) ×
    IsReached g.R.Rule.target_of g.R.Rule.value_of l.rules (map type_of l.types.items) ×
    (room (map type_of l.types.items) ≤ room (map type_of l.fn.types.items)) ×
    (2 * room (map type_of l.types.items) + length l.changed.items ≤ 2 * room (map type_of l.fn.types.items) + length l.fn.changed.items)
