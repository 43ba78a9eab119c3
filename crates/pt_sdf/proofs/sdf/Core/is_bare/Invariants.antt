use Rattle.pt_sdf.proofs.BareLaws.{EmptyTo}
use Rattle.pt_sdf.proofs.sdf.Core.is_bare.Given as goal

abbrev pub invariant-loop-c : goal.invariant-loop-c
invariant-loop-c l = EmptyTo l.c l.self-inside.channels.lists
