-- The depths of the children of a DE composite, and when there are none (the book, "Discrete-Event Models").
use Rattle.std.specs.Prelude.{◌≡◌, ℕ, ◌+◌, ◌<◌, List, Bool, length, get_or}
use Rattle.pt_meaning.specs.Valuation.{TickPlan}
use Rattle.pt_events.specs.declared.depth.DepthFault.{DepthFault}
use Rattle.pt_events.specs.declared.depth.DepthFault.TheVariants.{Loop, Memory}
use Rattle.pt_de_plan.specs.declared.inside.DeInside.{DeInside}
use Rattle.pt_de_plan.specs.Inside.{plan_of}
use Rattle.pt_de_plan.specs.Feeds.{FeedsAtOnce, IsZeroDelayLoop}

-- The depth of each child is 0 where no child feeds it at the same tag, else one more than the greatest depth of those that do: it is above each of these, and where it isn't 0 it is one above that of some.
pub record AreDepthsIn (p : TickPlan) (delayed : List Bool) (depths : List ℕ) : Type 0 where
  pub counted : length depths ≡ length p.net.places
  pub above : (j i : ℕ) → FeedsAtOnce p delayed j i → get_or depths j 0 < get_or depths i 0
  pub reached : (i : ℕ) → 0 < get_or depths i 0 → (j : ℕ) × FeedsAtOnce p delayed j i × (get_or depths i 0 ≡ get_or depths j 0 + 1)

-- when each answer that isn't a plan may come: a loop where it has no delay, want of memory always
abbrev pub FaultStands : DeInside → DepthFault → Type 0
FaultStands x (Loop children) = IsZeroDelayLoop (plan_of x) x.delayed.items children.items
FaultStands x Memory = Unit {0}
