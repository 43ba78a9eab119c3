use Rattle.pt_pn.proofs.WaitLaws.{AreFull}
use Rattle.pt_pn.proofs.waiting.lengths_of.Given as goal

abbrev pub invariant-loop-channel : goal.invariant-loop-channel
invariant-loop-channel l = AreFull l.full.items l.channel l.queues.lists l.marks
