-- What follows from the definitions.
use Rattle.std.specs.Prelude.{◌^◌, ◌<◌, ℕ, List, length}
use Rattle.pt_meaning.specs.Tree as tree
use Rattle.pt_de_laws.specs.DeActs.{de_acts, Suits}
use Rattle.pt_de_laws.specs.Lawful.{IsLawful}
use Rattle.pt_de_laws.specs.State.{started}
use Rattle.pt_de_plan.specs.declared.inside.DeInside.{DeInside}
use Rattle.pt_de_plan.specs.declared.planning.DePlan.{DePlan}
use Rattle.pt_de_plan.specs.Inside.{IsInside, plan_of, roles_of}
use Rattle.pt_library.specs.LibraryActor.{rows}
use Rattle.pt_node.specs.Shown.{Shown}
use Rattle.pt_node.specs.View.{Tree}
use Rattle.pt_trees.specs.Around.{Around}
use Rattle.pt_trees.specs.Composite.{trees_of}
use Rattle.pt_trees.specs.De.{IsDeCore, IsDeWired}
use Rattle.pt_trees.specs.Fresh.{AllFresh}
use Rattle.pt_trees.specs.Rates.{AllStarted}
use Rattle.pt_trees.specs.Sr.{tick_plan}
use Rattle.pt_de_inside.specs.Inside.{IsInsideOf}
use Rattle.pt_de_inside.specs.Planned.{IsPlanOf}

-- the inside of a composite that is wired is well formed, so it can be planned
abbrev pub InsidesAreFormed : Type 0
InsidesAreFormed = (around : Around) (kids : List Tree) (x : DeInside) → IsDeWired around kids → IsInsideOf around kids x → IsInside x

-- Where the children are fresh and started, a lawful plan of their inside suits them, whatever they fire. The wakes that it tells are theirs at the start (`starts` of the inside).
abbrev pub PlansSuit : Type 0
PlansSuit = (around : Around) (kids : List Shown) (x : DeInside) (depths : List ℕ) → IsDeWired around (trees_of kids) → AllFresh kids → AllStarted (trees_of kids) → IsInsideOf around (trees_of kids) x → IsLawful (plan_of x) (roles_of x depths) →
    Suits rows (tick_plan around) (roles_of x depths) (trees_of kids)

-- where the plan is lawful, each directed loop has a delay, so the composite has a core
abbrev pub PlansMakeCores : Type 0
PlansMakeCores = (around : Around) (kids : List Tree) (x : DeInside) (depths : List ℕ) → IsDeWired around kids → IsInsideOf around kids x → IsLawful (plan_of x) (roles_of x depths) → IsDeCore around kids (tree.De (tick_plan around))

-- A core that starts with the plan of a composite fits the children, whatever they fire, and the wakes that it has are theirs. Its lists are short enough for it.
pub record IsForCore (kids : List Tree) (p : DePlan) : Type 0 where
  pub lawful : IsLawful (plan_of p.inside) (roles_of p.inside p.depths.items)
  pub few : length p.inside.places < 2 ^ 32
  pub fewer : length p.inside.sources.items < 2 ^ 32
  pub fits : (de_acts rows).Fits (started (plan_of p.inside) (roles_of p.inside p.depths.items)) kids

abbrev pub PlansFit : Type 0
PlansFit = (around : Around) (kids : List Tree) (p : DePlan) → IsPlanOf around kids p → IsForCore kids p
