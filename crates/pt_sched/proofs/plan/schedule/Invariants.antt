use Rattle.pt_sched.specs.State.{IsHeld, left}
use Rattle.pt_sched.proofs.plan.schedule.Given as goal

abbrev pub invariant-firings : goal.invariant-firings
invariant-firings l = IsHeld l.edges l.q l.run

abbrev pub decreases-firings : goal.decreases-firings
decreases-firings l = left l.q l.run.fired.items
