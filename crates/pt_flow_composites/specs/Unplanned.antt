-- How it is told that a composite of SDF has no plan.
use Rattle.std.specs.Prelude.{◌≡◌}
use Rattle.pt_plan.specs.declared.planning.PlanFault.{PlanFault}
use Rattle.pt_plan.specs.declared.planning.PlanFault.TheVariants as plan_fault
use Rattle.pt_trees.specs.declared.composite_fault.CompositeFault.{CompositeFault}
use Rattle.pt_trees.specs.declared.composite_fault.CompositeFault.TheVariants.{Unbuilt, Refused, Memory}
use Rattle.pt_trees.specs.Sdf.{IsCodeOf}

-- by the code of its fault, or as want of memory
abbrev pub IsToldAs : PlanFault → CompositeFault → Type 0
IsToldAs fault Unbuilt = ⊥
IsToldAs fault (Refused code) = IsCodeOf fault code
IsToldAs fault Memory = fault ≡ plan_fault.Memory
