-- When each answer of the planner that isn't a plan stands.
use Rattle.std.specs.Prelude.{ℕ, List, length, take}
use Rattle.pt_rates.specs.Balance.{IsSolution, IsRepetitionVector}
use Rattle.pt_rates.specs.Fault.{HasSum, IsCrowdedAt}
use Rattle.pt_rates.specs.declared.rates.RatesFault.{RatesFault}
use Rattle.pt_rates.specs.declared.rates.RatesFault.TheVariants as rates
use Rattle.pt_sched.specs.Runs.{IsSchedule}
use Rattle.pt_sched.specs.declared.plan.SchedFault.{SchedFault}
use Rattle.pt_sched.specs.declared.plan.SchedFault.TheVariants as sched
use Rattle.pt_plan.specs.Channels.{nodes_of, edges_of, between}
use Rattle.pt_plan.specs.declared.inside.Inside.{Inside}
use Rattle.pt_plan.specs.declared.planning.PlanFault.{PlanFault}
use Rattle.pt_plan.specs.declared.planning.PlanFault.TheVariants.{Rates, Limit, Deadlock, Memory}

-- the least solution for some of the channels has a sum above 1,000,000, or a channel moves more than 1,000,000 tokens in the least solution for all
pub data IsPastLimit (x : Inside) : Type 0 where
  firings : (total : ℕ) → HasSum (nodes_of x) (edges_of x) total → IsPastLimit x
  tokens : (q : List ℕ) (channel : ℕ) → IsRepetitionVector (nodes_of x) (edges_of x) q → IsCrowdedAt (edges_of x) q channel → IsPastLimit x

-- no order fires each child as often as its repetition says and never lacks a token
pub record IsDeadlocked (x : Inside) : Type 0 where
  pub q : List ℕ
  pub least : IsRepetitionVector (nodes_of x) (edges_of x) q
  pub none : (order : List ℕ) → ¬ IsSchedule (between x) (take (length x.places) q) order

abbrev pub FaultStands : Inside → PlanFault → Type 0
FaultStands x Rates = (q : List ℕ) → ¬ IsSolution (nodes_of x) (edges_of x) q
FaultStands x Limit = IsPastLimit x
FaultStands x Deadlock = IsDeadlocked x
FaultStands x Memory = Unit {0}

-- how the solver's answers and the scheduler's are told
abbrev pub of_rates : RatesFault → PlanFault
of_rates (rates.Inconsistent channel) = Rates
of_rates (rates.Sum total) = Limit
of_rates (rates.Tokens channel) = Limit
of_rates rates.Memory = Memory

abbrev pub of_sched : SchedFault → PlanFault
of_sched (sched.Deadlock child) = Deadlock
of_sched sched.Memory = Memory
