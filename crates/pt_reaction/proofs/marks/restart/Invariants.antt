use Rattle.std.proofs.Common.{◌≡◌, ◌++◌, length, drop, replicate}
use Rattle.pt_reaction.proofs.marks.restart.Given as goal

abbrev pub invariant-loop-k : goal.invariant-loop-k
invariant-loop-k l = (l.stamps.items ≡ replicate l.k 0 ++ drop l.k l.fn.stamps.items) × (length l.stamps.items ≡ length l.fn.stamps.items)
