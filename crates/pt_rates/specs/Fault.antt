-- When each answer of the solver that isn't a solution stands.
use Rattle.std.specs.Prelude.{◌≡◌, ℕ, ◌<◌, List, length, All, Contains, sum, slice_index_or}
use Rattle.pt_rates.specs.Balance.{IsSolution, IsRepetitionVector, IsBalancedAt, tokens_on}
use Rattle.pt_rates.specs.declared.edge.Edge.{Edge}
use Rattle.pt_rates.specs.declared.rates.RatesFault.{RatesFault}
use Rattle.pt_rates.specs.declared.rates.RatesFault.TheVariants.{Inconsistent, Sum, Tokens, Memory}

-- some of the channels have a positive solution, and none in which this one is balanced: it breaks the ratio of its ends
pub record BreaksRatio (n : ℕ) (edges : List Edge) (edge : Edge) : Type 0 where
  pub others : List Edge
  pub among : All (Contains edges) others
  pub solvable : (q : List ℕ) × IsSolution n others q
  pub broken : (q : List ℕ) → IsSolution n others q → ¬ IsBalancedAt q edge

-- this channel breaks the ratio of its ends, and no positive solution exists
pub record IsInconsistentAt (n : ℕ) (edges : List Edge) (channel : ℕ) : Type 0 where
  pub inside : channel < length edges
  pub breaks : (other : Edge) → BreaksRatio n edges (slice_index_or edges channel other)
  pub unsolvable : (q : List ℕ) → ¬ IsSolution n edges q

-- the least solution for some of the channels has this sum, which is above 1,000,000
pub record HasSum (n : ℕ) (edges : List Edge) (total : ℕ) : Type 0 where
  pub some : List Edge
  pub among : All (Contains edges) some
  pub q : List ℕ
  pub least : IsRepetitionVector n some q
  pub summed : sum q ≡ total
  pub above : 1000000 < total

-- q puts more than 1,000,000 tokens on this channel
pub record IsCrowdedAt (edges : List Edge) (q : List ℕ) (channel : ℕ) : Type 0 where
  pub inside : channel < length edges
  pub above : (other : Edge) → 1000000 < tokens_on q (slice_index_or edges channel other)

abbrev pub FaultStands : ℕ → List Edge → RatesFault → Type 0
FaultStands n edges (Inconsistent channel) = IsInconsistentAt n edges channel
FaultStands n edges (Sum total) = HasSum n edges total
FaultStands n edges (Tokens channel) = (q : List ℕ) × IsRepetitionVector n edges q × IsCrowdedAt edges q channel
FaultStands n edges Memory = Unit {0}
