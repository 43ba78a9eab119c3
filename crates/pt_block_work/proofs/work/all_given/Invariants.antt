use Rattle.pt_block_work.proofs.WorkingLaws.{GivenTo}
use Rattle.pt_block_work.proofs.work.all_given.Given as goal

abbrev pub invariant-loop-row : goal.invariant-loop-row
invariant-loop-row l = GivenTo l.row-index l.given
