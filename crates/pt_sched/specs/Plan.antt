-- When each answer of the scheduler that isn't a plan stands.
use Rattle.std.specs.Prelude.{ℕ, ◌<◌, List, slice_index}
use Rattle.pt_sched.specs.Runs.{IsSchedule, IsStuck, firings}
use Rattle.pt_sched.specs.declared.edge.SchedEdge.{SchedEdge}
use Rattle.pt_sched.specs.declared.plan.SchedFault.{SchedFault}
use Rattle.pt_sched.specs.declared.plan.SchedFault.TheVariants.{Deadlock, Memory}

-- a run comes to where this child lacks firings, and no child that lacks firings has its tokens
pub record IsDeadlock (channels : List SchedEdge) (q : List ℕ) (child : ℕ) : Type 0 where
  pub order : List ℕ
  pub stuck : IsStuck channels q order
  pub lacking : firings order child < slice_index q child

-- there is a deadlock at this child, and so no schedule
pub record IsUnschedulable (channels : List SchedEdge) (q : List ℕ) (child : ℕ) : Type 0 where
  pub deadlock : IsDeadlock channels q child
  pub none : (order : List ℕ) → ¬ IsSchedule channels q order

abbrev pub FaultStands : List SchedEdge → List ℕ → SchedFault → Type 0
FaultStands channels q (Deadlock child) = IsUnschedulable channels q child
FaultStands channels q Memory = Unit {0}
