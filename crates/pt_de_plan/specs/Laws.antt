-- What follows from the definitions.
use Rattle.std.specs.Prelude.{◌≡◌, ℕ, List, Bool}
use Rattle.pt_meaning.specs.Valuation.{TickPlan}
use Rattle.pt_de_laws.specs.State.{Roles}
use Rattle.pt_de_laws.specs.Lawful.{IsLawful}
use Rattle.pt_de_plan.specs.Feeds.{IsZeroDelayLoop}
use Rattle.pt_de_plan.specs.Depths.{AreDepthsIn}

-- where there is a directed loop without a delay, no plan is lawful that tells the same delays
abbrev pub LoopsHaveNoPlan : Type 0
LoopsHaveNoPlan = (p : TickPlan) (roles : Roles) (children : List ℕ) → IsZeroDelayLoop p roles.delayed children → ¬ IsLawful p roles

-- the children have one list of depths at most
abbrev pub DepthsAreAlone : Type 0
DepthsAreAlone = (p : TickPlan) (delayed : List Bool) (a b : List ℕ) → AreDepthsIn p delayed a → AreDepthsIn p delayed b → a ≡ b
