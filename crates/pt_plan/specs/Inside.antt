-- When the inside of an SDF composite is well formed: its lists fit one another, and its numbers name what is there.
use Rattle.std.specs.Prelude.{◌≡◌, ℕ, ◌+◌, ◌^◌, ◌<◌, ◌≤◌, List, [], length, All, get_or}
use Rattle.pt_meaning.specs.Running.{total}
use Rattle.pt_core.specs.declared.source.Source.{Source}
use Rattle.pt_core.specs.declared.source.Source.TheVariants.{Own, Output}
use Rattle.pt_plan.specs.declared.inside.Inside.{Inside}

-- a number of tokens that a firing may move (by the profile)
abbrev pub IsRate : ℕ → Type 0
IsRate n = (0 < n) × (n ≤ 1000000)

-- an own input, or a port of a child
abbrev pub IsThere : Inside → Source → Type 0
IsThere x (Own port) = port < x.inputs
IsThere x (Output child port) = (child < length x.places) × (port < length (get_or x.rates.items child []))

-- Each place needs a number of tokens, each child has a rate for each of its ports, and a channel ends at each place and at each own output.
-- There are few enough channels that each own input may have one more.
pub record IsInside (x : Inside) : Type 0 where
  pub needed : length x.needs ≡ total x.places
  pub rated : length x.rates.items ≡ length x.places
  pub channels : length x.sources.items ≡ total x.places + x.outputs
  pub few : length x.sources.items + x.inputs < 2 ^ 32
  pub started : length x.first ≡ length x.sources.items
  pub there : All (IsThere x) x.sources.items
  pub needs : All IsRate x.needs
  pub rates : All (λ (row : List ℕ). All IsRate row) x.rates.items
  pub firsts : All (λ n. n ≤ 2 ^ 32) x.first
