use Rattle.std.proofs.Common.{◌≡◌, ◌++◌, length, drop, replicate, false}
use Rattle.pt_sr.proofs.signals.lower.Given as goal

abbrev pub invariant-loop-i : goal.invariant-loop-i
invariant-loop-i l = (l.flags.items ≡ replicate l.i false ++ drop l.i l.fn.flags.items) × (length l.flags.items ≡ length l.fn.flags.items)
