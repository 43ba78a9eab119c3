use Rattle.std.proofs.Common.{take}
use Rattle.pt_sched.specs.Lists.{AreListed}
use Rattle.pt_sched.proofs.lists.listed.Given as goal

abbrev pub invariant-loop-number : goal.invariant-loop-number
invariant-loop-number l = AreListed l.n l.side (take l.number l.channels) l.lists.items
