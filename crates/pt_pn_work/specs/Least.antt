-- Of the channels that the first processes wait to put on, and that may still grow, the one of least capacity, and of these the one of least number.
use Rattle.std.specs.Prelude.{◌≡◌, ◌⊎◌, ℕ, ◌<◌, ◌≤◌, Option, Some, None}
use Rattle.pt_pn_laws.specs.State.{capacity_of, greatest_of}
use Rattle.pt_pn_work.specs.Core.{State, PutsOn}

-- the capacity is less, or the same and the number no greater
abbrev pub IsNoWorse : (d k c m : ℕ) → Type 0
IsNoWorse d k c m = (k < m) ⊎ ((k ≡ m) × (d ≤ c))

-- no channel of the first i processes is better
abbrev pub NoneBetter : State → ℕ → ℕ × ℕ → Type 0
NoneBetter s i best = (j c : ℕ) → j < i → PutsOn s j c → capacity_of s c < greatest_of s c → IsNoWorse best.0 best.1 c (capacity_of s c)

pub record HasBest (s : State) (i : ℕ) (best : ℕ × ℕ) : Type 0 where
  pub process : ℕ
  pub there : process < i
  pub puts : PutsOn s process best.0
  pub capacity : best.1 ≡ capacity_of s best.0
  pub below : best.1 < greatest_of s best.0
  pub none : NoneBetter s i best

abbrev pub IsBest : State → ℕ → Option (ℕ × ℕ) → Type 0
IsBest s i None = (j c : ℕ) → j < i → PutsOn s j c → capacity_of s c < greatest_of s c → ⊥
IsBest s i (Some best) = HasBest s i best
