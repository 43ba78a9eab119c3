-- The plan of a composite, and how it is told that there is none.
use Rattle.std.proofs.Common.{◌≡◌, List, Bool, length, sym, refl, ap, subst, arith}
use Rattle.std.proofs.lemmas.List.{length-map}
use Rattle.pt_meaning.specs.Valuation.{TickPlan}
use Rattle.pt_core.specs.Source.{source_of}
use Rattle.pt_events.specs.declared.depth.DepthFault.{DepthFault}
use Rattle.pt_events.specs.declared.depth.DepthFault.TheVariants as depth_fault
use Rattle.pt_de_laws.specs.DeActs.{Suits}
use Rattle.pt_de_laws.specs.Lawful.{IsLawful}
use Rattle.pt_de_plan.specs.declared.inside.DeInside.{DeInside}
use Rattle.pt_de_plan.specs.declared.planning.DePlan.{DePlan}
use Rattle.pt_de_plan.specs.Depths.{AreDepthsIn, FaultStands}
use Rattle.pt_de_plan.specs.Inside.{plan_of, roles_of}
use Rattle.pt_library.specs.LibraryActor.{rows}
use Rattle.pt_node.specs.Shown.{Shown}
use Rattle.pt_trees.specs.declared.composite_fault.CompositeFault.{CompositeFault}
use Rattle.pt_trees.specs.Around.{Around}
use Rattle.pt_trees.specs.Composite.{trees_of, IsUncomposed}
use Rattle.pt_trees.specs.De.{de, delayed_in, IsDeWired}
use Rattle.pt_trees.specs.Fresh.{AllFresh}
use Rattle.pt_trees.specs.Rates.{AllStarted}
use Rattle.pt_trees.specs.Sr.{tick_plan}
use Rattle.pt_de_inside.specs.Inside.{IsInsideOf}
use Rattle.pt_de_inside.specs.Laws.{PlansFit}
use Rattle.pt_de_inside.specs.Planned.{IsPlanOf, IsToldAs}
use Rattle.pt_de_inside.proofs.FormLaws.{core-is, same-loop}
use Rattle.pt_de_inside.proofs.SuitLaws.{plans-suit}

pub plan-is : (around : Around) (kids : List Shown) (x : DeInside) (p : DePlan) → IsDeWired around (trees_of kids) → AllFresh kids → AllStarted (trees_of kids) → IsInsideOf around (trees_of kids) x → p.inside ≡ x → AreDepthsIn (plan_of x) x.delayed.items p.depths.items → IsLawful (plan_of x) (roles_of x p.depths.items) → IsPlanOf around (trees_of kids) p
plan-is around kids x p wired fresh started is same depths lawful = record {
  inside = subst (λ (y : DeInside). IsInsideOf around (trees_of kids) y) (sym same) is;
  core = core-is around (trees_of kids) x wired is p.depths.items lawful;
  depths = subst (λ (q : TickPlan). AreDepthsIn q (delayed_in around (trees_of kids)) p.depths.items) is.plan (subst (λ (flags : List Bool). AreDepthsIn (plan_of x) flags p.depths.items) is.delayed depths);
  suits = subst (λ (y : DeInside). Suits rows (tick_plan around) (roles_of y p.depths.items) (trees_of kids)) (sym same) (plans-suit around kids x p.depths.items wired fresh started is lawful);
}

pub told-stands : (around : Around) (kids : List Shown) (x : DeInside) (fault : DepthFault) (told : CompositeFault) → IsDeWired around (trees_of kids) → IsInsideOf around (trees_of kids) x → FaultStands x fault → IsToldAs fault told → IsUncomposed de around kids told
told-stands around kids x (depth_fault.Loop children) told wired is stands e =
    subst (λ (f : CompositeFault). IsUncomposed de around kids f) (sym e) (record { wired = wired; children = children.items; loop = same-loop around (trees_of kids) x wired is children.items stands; is = refl })
told-stands around kids x depth_fault.Memory told wired is stands e = subst (λ (f : CompositeFault). IsUncomposed de around kids f) (sym e) tt

-- ---- a core that starts with it

pub plans-fit : PlansFit
plans-fit around kids p is =
    let same : plan_of p.inside ≡ tick_plan around = is.inside.plan in
    let suits : Suits rows (plan_of p.inside) (roles_of p.inside p.depths.items) kids = subst (λ (q : TickPlan). Suits rows q (roles_of p.inside p.depths.items) kids) (sym same) is.suits in
    record {
      lawful = suits.lawful;
      few = omega (arith, ap (λ (q : TickPlan). length q.net.places) same, is.core.wired.wired.fewer);
      fewer = omega (arith, ap (λ (q : TickPlan). length q.net.sources) same, length-map p.inside.sources.items source_of, is.core.wired.wired.few);
      fits = (refl, is.inside.starts, suits);
    }
