use Rattle.std.proofs.Common.{◌≡◌, length, map}
use Rattle.pt_datatypes.specs.Rank.{room}
use Rattle.pt_datatypes.specs.Rules.{IsReached}
use Rattle.pt_types.specs.Ty.{type_of}
use Rattle.pt_types.proofs.rules.least.Given as goal

abbrev pub invariant-loop-changed : goal.invariant-loop-changed
invariant-loop-changed g l = (length l.types.items ≡ l.n) × IsReached g.R.Rule.target_of g.R.Rule.value_of l.rules (map type_of l.types.items)

abbrev pub decreases-loop-changed : goal.decreases-loop-changed
decreases-loop-changed g l = room (map type_of l.types.items)
