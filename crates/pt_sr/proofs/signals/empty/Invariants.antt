use Rattle.std.proofs.Common.{◌≡◌, ◌++◌, [], length, drop, replicate}
use Rattle.pt_sr.proofs.signals.empty.Given as goal

abbrev pub invariant-loop-i : goal.invariant-loop-i
invariant-loop-i l = (l.lists.items ≡ replicate l.i [] ++ drop l.i l.fn.lists.items) × (length l.lists.items ≡ length l.fn.lists.items)
