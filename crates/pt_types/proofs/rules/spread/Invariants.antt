use Rattle.std.proofs.Common.{◌≡◌, ◌+◌, ◌*◌, ◌≤◌, length, map}
use Rattle.pt_datatypes.specs.Rank.{room}
use Rattle.pt_datatypes.specs.Rules.{IsReached}
use Rattle.pt_types.specs.Ty.{type_of}
use Rattle.pt_types.proofs.rules.spread.Given as goal

abbrev pub invariant-loop-alloc : goal.invariant-loop-alloc
invariant-loop-alloc g l =
    (length l.types.items ≡ length l.fn.types.items) ×
    IsReached g.R.Rule.target_of g.R.Rule.value_of l.rules (map type_of l.types.items) ×
    (room (map type_of l.types.items) ≤ room (map type_of l.fn.types.items))

abbrev pub decreases-loop-alloc : goal.decreases-loop-alloc
decreases-loop-alloc g l = 2 * room (map type_of l.types.items) + length l.changed.items
