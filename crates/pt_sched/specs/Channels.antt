-- The condition on the channels of a graph.
use Rattle.std.specs.Prelude.{ℕ, ◌≤◌, ◌^◌, List, slice_index}
use Rattle.pt_rates.specs.Balance.{IsChannel}
use Rattle.pt_sched.specs.declared.edge.SchedEdge.{SchedEdge}

-- a channel between two of n children, with at most 2 ^ 32 first tokens (by the profile)
pub record IsSchedEdge (n : ℕ) (channel : SchedEdge) : Type 0 where
  pub between : IsChannel n channel.edge
  pub first : channel.initial ≤ 2 ^ 32

-- no child has fired more than 1,000,000 times
abbrev pub AreSmall : List ℕ → Type 0
AreSmall fired = (child : ℕ) → slice_index fired child ≤ 1000000
