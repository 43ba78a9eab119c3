use Rattle.pt_sdf_parts.specs.Plan.{plan_of}
use Rattle.pt_block_work.proofs.WorkingLaws.{Working}
use Rattle.pt_block_work.proofs.work.fire_all.Given as goal

abbrev pub invariant-loop-k : goal.invariant-loop-k
invariant-loop-k l = Working (plan_of l.plan) l.plan.needs l.iterations l.fn.actors.items l.actors.items l.given.items
