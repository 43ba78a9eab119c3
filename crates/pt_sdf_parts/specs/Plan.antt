-- What the code's plan is among the definitions.
use Rattle.std.specs.Prelude.{◌≡◌, ℕ, List, map}
use Rattle.pt_meaning.specs.Net as net
use Rattle.pt_meaning.specs.Sdf.{SdfPlan}
use Rattle.pt_sched.specs.Stretches.{spread}
use Rattle.pt_core.specs.Source.{source_of}
use Rattle.pt_sdf_parts.specs.declared.plan.CorePlan.{CorePlan}

abbrev pub net_of : CorePlan → net.Net
net_of p = record { sources = map source_of p.sources.items; places = p.places }

abbrev pub plan_of : CorePlan → SdfPlan
plan_of p = record { net = net_of p; repetitions = p.repetitions; takes = p.takes; gives = p.gives; rates = p.rates.items }

-- the children of an iteration's firings, one after another
abbrev pub order_of : CorePlan → List ℕ
order_of p = spread p.order.items

-- two plans are the same, list by list
pub record IsSamePlan (p q : CorePlan) : Type 0 where
  pub sources : q.sources.items ≡ p.sources.items
  pub places : q.places ≡ p.places
  pub needs : q.needs ≡ p.needs
  pub rates : q.rates.items ≡ p.rates.items
  pub repetitions : q.repetitions ≡ p.repetitions
  pub takes : q.takes ≡ p.takes
  pub gives : q.gives ≡ p.gives
  pub order : q.order.items ≡ p.order.items
  pub room : q.room ≡ p.room
