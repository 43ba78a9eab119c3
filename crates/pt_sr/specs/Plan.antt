-- What the code's plan is among the definitions.
use Rattle.std.specs.Prelude.{◌≡◌, ℕ, ◌^◌, ◌<◌, ◌≤◌, List, length, map, replicate}
use Rattle.std.specs.List.{All}
use Rattle.pt_meaning.specs.Net as net
use Rattle.pt_meaning.specs.Valuation.{TickPlan}
use Rattle.pt_meaning.specs.Running.{total}
use Rattle.pt_core.specs.Source.{source_of}
use Rattle.pt_sr.specs.declared.plan.CorePlan.{CorePlan}

abbrev pub plan_of : CorePlan → TickPlan
plan_of p = record { net = record { sources = map source_of p.sources.items; places = p.places }; inputs = length p.takes }

-- two plans are the same, list by list
pub record IsSamePlan (p q : CorePlan) : Type 0 where
  pub sources : q.sources.items ≡ p.sources.items
  pub places : q.places ≡ p.places
  pub outputs : q.outputs ≡ p.outputs
  pub nonstrict : q.nonstrict.items ≡ p.nonstrict.items
  pub takes : q.takes ≡ p.takes
  pub order : q.order.items ≡ p.order.items

-- the channel begins at something that is there
abbrev pub IsNamed : TickPlan → net.Source → Type 0
IsNamed p (net.Own port) = port < p.inputs
IsNamed p (net.Output child port) = child < length p.net.places

-- A plan is lawful: its lists fit one another, each place ends at one channel, its channels begin at what is there, and a tick takes one token from each own input.
pub record IsLawful {A : Type 0} (p : TickPlan) (nonstrict : List A) (takes : List ℕ) : Type 0 where
  pub kinds : length nonstrict ≡ length p.net.places
  pub channels : total p.net.places ≤ length p.net.sources
  pub few : length p.net.sources < 2 ^ 32
  pub fewer : length p.net.places < 2 ^ 32
  pub named : All (IsNamed p) p.net.sources
  pub ones : takes ≡ replicate p.inputs 1
