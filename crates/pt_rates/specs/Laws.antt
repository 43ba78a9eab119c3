-- What the answers of the solver say of one another.
use Rattle.std.specs.Prelude.{◌≡◌, ℕ, ◌≤◌, List, All, sum}
use Rattle.pt_rates.specs.Balance.{IsRepetitionVector, tokens_on}
use Rattle.pt_rates.specs.Fault.{IsInconsistentAt, HasSum, IsCrowdedAt}
use Rattle.pt_rates.specs.declared.edge.Edge.{Edge}

-- there is one least solution
abbrev pub RepetitionsAreUnique : Type 0
RepetitionsAreUnique = (n : ℕ) (edges : List Edge) (first second : List ℕ) → IsRepetitionVector n edges first → IsRepetitionVector n edges second → first ≡ second

-- a least solution with a sum of at most 1,000,000 rules out an inconsistent channel and a greater sum of some channels, and one in which no channel moves more tokens rules out such a channel
pub record SolutionsExcludeFaults : Type 0 where
  pub inconsistent : (n : ℕ) (edges : List Edge) (q : List ℕ) (channel : ℕ) → IsRepetitionVector n edges q → ¬ IsInconsistentAt n edges channel
  pub sums : (n : ℕ) (edges : List Edge) (q : List ℕ) (total : ℕ) → IsRepetitionVector n edges q → sum q ≤ 1000000 → ¬ HasSum n edges total
  pub tokens : (n : ℕ) (edges : List Edge) (q other : List ℕ) (channel : ℕ) → IsRepetitionVector n edges q → All (λ edge. tokens_on q edge ≤ 1000000) edges → IsRepetitionVector n edges other → ¬ IsCrowdedAt edges other channel
