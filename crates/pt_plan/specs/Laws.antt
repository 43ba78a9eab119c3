-- What plans say of one another, and of the faults.
use Rattle.std.specs.Prelude.{◌≡◌}
use Rattle.pt_meaning.specs.Sdf.{SdfPlan}
use Rattle.pt_plan.specs.PlanOf.{IsPlanOf, IsWithinLimits}
use Rattle.pt_plan.specs.Fault.{FaultStands}
use Rattle.pt_plan.specs.declared.inside.Inside.{Inside}
use Rattle.pt_plan.specs.declared.planning.PlanFault.TheVariants.{Rates, Limit, Deadlock}

-- an inside has at most one plan
abbrev pub PlansAreUnique : Type 0
PlansAreUnique = (x : Inside) (p q : SdfPlan) → IsPlanOf x p → IsPlanOf x q → p ≡ q

-- where an inside has a plan, its rates have a solution, and it isn't deadlocked; and where the plan is within the limits, no limit is passed
pub record PlansExcludeFaults : Type 0 where
  pub rates : (x : Inside) (p : SdfPlan) → IsPlanOf x p → ¬ FaultStands x Rates
  pub deadlock : (x : Inside) (p : SdfPlan) → IsPlanOf x p → ¬ FaultStands x Deadlock
  pub limit : (x : Inside) (p : SdfPlan) → IsPlanOf x p → IsWithinLimits x p → ¬ FaultStands x Limit
