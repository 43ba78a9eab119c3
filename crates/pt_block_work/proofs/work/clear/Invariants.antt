use Rattle.pt_block_work.proofs.WorkingLaws.{ClearedTo}
use Rattle.pt_block_work.proofs.work.clear.Given as goal

abbrev pub invariant-loop-k : goal.invariant-loop-k
invariant-loop-k l = ClearedTo l.fn.given.items l.k l.given.items
