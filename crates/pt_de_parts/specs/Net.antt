-- The fixed part of a core: what its plan says, and the tables that are read of it.
use Rattle.std.specs.Prelude.{◌≡◌, ℕ, ◌^◌, ◌<◌, length, get_or, refl}
use Rattle.std.specs.Coded.{Coded, code_by, coded×}
use Rattle.pt_meaning.specs.Valuation.{TickPlan}
use Rattle.pt_de_laws.specs.State.{Roles}
use Rattle.pt_de_laws.specs.Lawful.{IsLawful}
use Rattle.pt_de_plan.specs.Inside.{plan_of, roles_of}
use Rattle.pt_de_plan.specs.declared.inside.DeInside.{DeInside}
use Rattle.pt_de_plan.specs.declared.planning.DePlan.{DePlan}
use Rattle.pt_reaction.specs.Feeds.{AreFeeds}
use Rattle.pt_reaction.specs.Offsets.{begins, all_readers}
use Rattle.pt_de_parts.specs.declared.net.Net.TheInside.{Inside}
use Rattle.pt_de_parts.specs.StateCode.{coded_plan, coded_roles}

-- the plan, and what it tells of the children
pub record Planned : Type 0 where
  pub plan : TickPlan
  pub roles : Roles

abbrev pub coded_planned : Coded Planned
coded_planned = code_by (TickPlan × Roles) (coded× coded_plan coded_roles) (λ p. (p.plan, p.roles)) (λ c. record { plan = c.0; roles = c.1 }) (λ _. refl)

abbrev pub planned_of : DePlan → Planned
planned_of p = record { plan = plan_of p.inside; roles = roles_of p.inside p.depths.items }

abbrev pub planned_in : Inside → Planned
planned_in n = planned_of n.plan

-- the child at whose place a channel ends, and the number of children for an own output
abbrev pub reader_in : Planned → ℕ → ℕ
reader_in p c = get_or (all_readers p.plan.net.places (length p.plan.net.sources)) c (length p.plan.net.places)

pub record IsNet (n : Inside) : Type 0 where
  pub lawful : IsLawful (planned_of n.plan).plan (planned_of n.plan).roles
  pub few : length n.plan.inside.places < 2 ^ 32
  pub fewer : length n.plan.inside.sources.items < 2 ^ 32
  pub outputs : length n.outputs ≡ length n.plan.inside.places
  pub offsets : n.offsets.items ≡ begins 0 n.plan.inside.places
  pub feeds : AreFeeds (length n.plan.inside.places) (plan_of n.plan.inside).net.sources n.feeds.items
  pub readers : n.readers.items ≡ all_readers n.plan.inside.places (length n.plan.inside.sources.items)

-- two plans are the same, list by list
pub record IsSameInside (x y : DeInside) : Type 0 where
  pub sources : y.sources.items ≡ x.sources.items
  pub places : y.places ≡ x.places
  pub inputs : y.inputs ≡ x.inputs
  pub delayed : y.delayed.items ≡ x.delayed.items
  pub early : y.early.items ≡ x.early.items
  pub whole : y.whole.items ≡ x.whole.items
  pub starts : y.starts.items ≡ x.starts.items

pub record IsSamePlan (p q : DePlan) : Type 0 where
  pub inside : IsSameInside p.inside q.inside
  pub depths : q.depths.items ≡ p.depths.items
