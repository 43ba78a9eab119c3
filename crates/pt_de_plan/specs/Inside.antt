-- What the inside of a DE composite is among the definitions, and when it is well formed.
use Rattle.std.specs.Prelude.{◌≡◌, ℕ, ◌^◌, ◌<◌, ◌≤◌, List, length, map, All, get_or, true, false}
use Rattle.pt_meaning.specs.Running.{total}
use Rattle.pt_meaning.specs.Valuation.{TickPlan}
use Rattle.pt_laws.specs.TickRuns.{places_at}
use Rattle.pt_laws.specs.StartedRuns.{IsThere}
use Rattle.pt_core.specs.Source.{source_of}
use Rattle.pt_de_laws.specs.State.{Roles}
use Rattle.pt_de_plan.specs.declared.inside.DeInside.{DeInside}

-- its channels, the places of its children, and how many own inputs it has
abbrev pub plan_of : DeInside → TickPlan
plan_of x = record { net = record { sources = map source_of x.sources.items; places = x.places }; inputs = x.inputs }

-- what a plan tells of the children, where they have these depths
abbrev pub roles_of : DeInside → List ℕ → Roles
roles_of x depths = record { depths = depths; delayed = x.delayed.items; early = x.early.items; whole = x.whole.items; starts = x.starts.items }

-- Its lists fit one another, a channel ends at each place, channels begin at own inputs and children that are there, and only children that answer early have delays.
pub record IsInside (x : DeInside) : Type 0 where
  pub early : length x.early.items ≡ length x.places
  pub whole : length x.whole.items ≡ length x.places
  pub starts : length x.starts.items ≡ length x.places
  pub delayed : length x.delayed.items ≡ length x.sources.items
  pub channels : total x.places ≤ length x.sources.items
  pub few : length x.places < 2 ^ 32
  pub there : All (λ source. IsThere x.inputs (length x.places) (source_of source)) x.sources.items
  pub delays : (i q : ℕ) → get_or (places_at x.places i x.delayed.items) q false ≡ true → get_or x.early.items i false ≡ true
