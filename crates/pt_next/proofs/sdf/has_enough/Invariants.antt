use Rattle.std.proofs.Common.{◌≡◌, drop}
use Rattle.pt_meaning.specs.Schedule.{suffice}
use Rattle.pt_next.proofs.sdf.has_enough.Given as goal

abbrev pub invariant-loop-place : goal.invariant-loop-place
invariant-loop-place l = suffice l.iteration (drop l.place l.job.takes) (drop l.place l.job.inputs.items) ≡ suffice l.iteration l.job.takes l.job.inputs.items
