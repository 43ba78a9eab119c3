-- The balance equations of a dataflow graph (the book, "Dataflow").
use Rattle.std.specs.Prelude.{◌≡◌, ℕ, ◌*◌, ◌<◌, ◌≤◌, List, length, All, slice_index}
use Rattle.pt_rates.specs.declared.edge.Edge.{Edge}

-- a channel of a graph with n nodes: its ends are nodes, and its rates are 1 to 1,000,000 (by the profile)
pub record IsChannel (n : ℕ) (edge : Edge) : Type 0 where
  pub starts : edge.from < n
  pub ends : edge.to < n
  pub puts : (0 < edge.produced) × (edge.produced ≤ 1000000)
  pub takes : (0 < edge.consumed) × (edge.consumed ≤ 1000000)

-- the tokens that are put on a channel in one iteration
abbrev pub tokens_on : List ℕ → Edge → ℕ
tokens_on q edge = slice_index q edge.from * edge.produced

-- over one iteration as many tokens are put on the channel as are taken from it
abbrev pub IsBalancedAt : List ℕ → Edge → Type 0
IsBalancedAt q edge = tokens_on q edge ≡ slice_index q edge.to * edge.consumed

-- q says a positive number of firings for each of n nodes, and solves the balance equations
pub record IsSolution (n : ℕ) (edges : List Edge) (q : List ℕ) : Type 0 where
  pub counted : length q ≡ n
  pub positive : All (λ firings. 0 < firings) q
  pub balanced : All (IsBalancedAt q) edges

-- the repetition vector: of all positive solutions the least, node by node
pub record IsRepetitionVector (n : ℕ) (edges : List Edge) (q : List ℕ) : Type 0 where
  pub solution : IsSolution n edges q
  pub least : (other : List ℕ) → IsSolution n edges other → (node : ℕ) → node < n → slice_index q node ≤ slice_index other node
