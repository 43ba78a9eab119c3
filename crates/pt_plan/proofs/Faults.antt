-- What the solver and the scheduler tell, as the planner tells it.
use Rattle.std.proofs.Common.{ℕ, List, length, take}
use Rattle.pt_rates.specs.Balance.{IsRepetitionVector}
use Rattle.pt_rates.specs.Fault as rates
use Rattle.pt_rates.specs.declared.rates.RatesFault.{RatesFault}
use Rattle.pt_rates.specs.declared.rates.RatesFault.TheVariants as rates_fault
use Rattle.pt_sched.specs.Plan as sched
use Rattle.pt_sched.specs.declared.plan.SchedFault.{SchedFault}
use Rattle.pt_sched.specs.declared.plan.SchedFault.TheVariants as sched_fault
use Rattle.pt_plan.specs.Channels.{nodes_of, edges_of, between}
use Rattle.pt_plan.specs.Fault.{FaultStands, firings, tokens, of_rates, of_sched}
use Rattle.pt_plan.specs.declared.inside.Inside.{Inside}

pub rates-stand : (x : Inside) (fault : RatesFault) → rates.FaultStands (nodes_of x) (edges_of x) fault → FaultStands x (of_rates fault)
rates-stand x (rates_fault.Inconsistent channel) h = h.unsolvable
rates-stand x (rates_fault.Sum total) h = firings total h
rates-stand x (rates_fault.Tokens channel) h = tokens h.0 channel h.1 h.2
rates-stand x rates_fault.Memory h = tt

pub sched-stands : (x : Inside) (q : List ℕ) → IsRepetitionVector (nodes_of x) (edges_of x) q → (fault : SchedFault) → sched.FaultStands (between x) (take (length x.places) q) fault → FaultStands x (of_sched fault)
sched-stands x q least (sched_fault.Deadlock child) h = record { q = q; least = least; none = h.none }
sched-stands x q least sched_fault.Memory h = tt
