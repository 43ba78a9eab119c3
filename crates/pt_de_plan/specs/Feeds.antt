-- Which child feeds which at the same tag, and directed loops without a delay (the book, "Discrete-Event Models").
use Rattle.std.specs.Prelude.{◌≡◌, ℕ, List, Bool, false, get_or, Some}
use Rattle.pt_meaning.specs.Net.{Output}
use Rattle.pt_meaning.specs.Valuation.{TickPlan}
use Rattle.pt_laws.specs.Channels.{source_in}
use Rattle.pt_laws.specs.TickRuns.{places_at}
use Rattle.pt_events.specs.Depths.{IsCycle}

-- child j feeds child i: a channel leads from an output of j to a place of i that is no delay
pub record FeedsAtOnce (p : TickPlan) (delayed : List Bool) (j i : ℕ) : Type 0 where
  pub place : ℕ
  pub port : ℕ
  pub source : source_in p.net i place ≡ Some (Output j port)
  pub undelayed : get_or (places_at p.net.places i delayed) place false ≡ false

-- a directed loop without a delay: each of these children feeds the next, and the last the first
abbrev pub IsZeroDelayLoop : TickPlan → List Bool → List ℕ → Type 0
IsZeroDelayLoop p delayed children = IsCycle (FeedsAtOnce p delayed) children
