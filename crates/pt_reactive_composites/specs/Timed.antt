-- The core of a DE composite as it is built.
use Rattle.std.specs.Prelude.{◌≡◌, List}
use Rattle.pt_de_laws.specs.DeActs.{State}
use Rattle.pt_de_laws.specs.State.{started}
use Rattle.pt_de_inside.specs.Planned.{IsPlanOf}
use Rattle.pt_de_plan.specs.declared.planning.DePlan.{DePlan}
use Rattle.pt_de_plan.specs.Inside.{plan_of, roles_of}
use Rattle.pt_node.specs.View.{Tree}
use Rattle.pt_trees.specs.Around.{Around}

-- it starts with a plan of the composite with this wiring round these children
pub record StartsByPlan (around : Around) (kids : List Tree) (core : State) : Type 0 where
  pub plan : DePlan
  pub is_plan : IsPlanOf around kids plan
  pub is : core ≡ started (plan_of plan.inside) (roles_of plan.inside plan.depths.items)
