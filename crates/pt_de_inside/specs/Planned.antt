-- The plan of a DE composite round its children, and how it is told that there is none.
use Rattle.std.specs.Prelude.{◌≡◌, List}
use Rattle.pt_meaning.specs.Tree as tree
use Rattle.pt_document.specs.declared.code.Code.TheVariants.{ZeroDelayLoop}
use Rattle.pt_events.specs.declared.depth.DepthFault.{DepthFault}
use Rattle.pt_events.specs.declared.depth.DepthFault.TheVariants as depth_fault
use Rattle.pt_de_laws.specs.DeActs.{Suits}
use Rattle.pt_de_plan.specs.declared.planning.DePlan.{DePlan}
use Rattle.pt_de_plan.specs.Depths.{AreDepthsIn}
use Rattle.pt_de_plan.specs.Inside.{roles_of}
use Rattle.pt_library.specs.LibraryActor.{rows}
use Rattle.pt_node.specs.View.{Tree}
use Rattle.pt_trees.specs.declared.composite_fault.CompositeFault.{CompositeFault}
use Rattle.pt_trees.specs.declared.composite_fault.CompositeFault.TheVariants.{Refused, Memory}
use Rattle.pt_trees.specs.Around.{Around}
use Rattle.pt_trees.specs.De.{IsDeCore, delayed_in}
use Rattle.pt_trees.specs.Sr.{tick_plan}
use Rattle.pt_de_inside.specs.Inside.{IsInsideOf}

-- It is the plan of the inside, the composite has a core, its depths are those of the children, and it suits them, whatever they fire.
pub record IsPlanOf (around : Around) (kids : List Tree) (p : DePlan) : Type 0 where
  pub inside : IsInsideOf around kids p.inside
  pub core : IsDeCore around kids (tree.De (tick_plan around))
  pub depths : AreDepthsIn (tick_plan around) (delayed_in around kids) p.depths.items
  pub suits : Suits rows (tick_plan around) (roles_of p.inside p.depths.items) kids

-- a loop by its code, or want of memory
abbrev pub IsToldAs : DepthFault → CompositeFault → Type 0
IsToldAs (depth_fault.Loop children) told = told ≡ Refused ZeroDelayLoop
IsToldAs depth_fault.Memory told = told ≡ Memory
