use Rattle.std.proofs.Common.{◌≡◌}
use Rattle.pt_sdf_parts.proofs.tables.make_ready.Given as goal

abbrev pub invariant-loop-c : goal.invariant-loop-c
invariant-loop-c l = l.channels.lists ≡ l.fn.channels.lists
