use Rattle.pt_job.proofs.Paired.{ArePaired}
use Rattle.pt_job.proofs.events.at_tags.Given as goal

abbrev pub invariant-loop-number : goal.invariant-loop-number
invariant-loop-number l = ArePaired l.events l.tokens l.number l.list.items
