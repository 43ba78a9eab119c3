use Rattle.std.proofs.Common.{◌≤◌, drop, length}
use Rattle.pt_guards.proofs.PlacedLaws.{Rest}
use Rattle.pt_guards.proofs.kept.last_of.Given as goal

abbrev pub invariant-loop-left : goal.invariant-loop-left
invariant-loop-left l = record {
  within : l.left ≤ length l.entries;
  rest : Rest (drop l.left l.entries) l.name;
}

abbrev pub decreases-loop-left : goal.decreases-loop-left
decreases-loop-left l = l.left
