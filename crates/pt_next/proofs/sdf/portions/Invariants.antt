use Rattle.pt_next.proofs.Portions.{Portioned}
use Rattle.pt_next.proofs.sdf.portions.Given as goal

abbrev pub invariant-loop-place : goal.invariant-loop-place
invariant-loop-place l = Portioned l.iteration l.job.takes l.job.inputs.items l.place l.lists.items
