-- What comes next in a run.
use Rattle.std.specs.Prelude.{◌≡◌, ℕ, ◌+◌, ◌*◌, ◌<◌, ◌≤◌, List, All, slice_index}
use Rattle.pt_sched.specs.Runs.{HasTokens, put_on, taken_from}
use Rattle.pt_sched.specs.declared.edge.SchedEdge.{SchedEdge}
use Rattle.pt_sched.specs.declared.search.Next.{Next}
use Rattle.pt_sched.specs.declared.search.Next.TheVariants.{Ready, Stuck, Over}

-- the child lacks firings and has its tokens
abbrev pub IsReady : List SchedEdge → List ℕ → (ℕ → ℕ) → ℕ → Type 0
IsReady channels q fired child = (fired child < slice_index q child) × HasTokens channels fired child

-- the channel holds what so many firings of its receiver take
abbrev pub LastsFor : (ℕ → ℕ) → ℕ → SchedEdge → Type 0
LastsFor fired times channel = taken_from channel fired + times * channel.edge.consumed ≤ put_on channel fired

-- and so does each that ends at the child
abbrev pub HasTokensFor : List SchedEdge → (ℕ → ℕ) → ℕ → ℕ → Type 0
HasTokensFor channels fired child times = All (λ channel. channel.edge.to ≡ child → LastsFor fired times channel) channels

-- the child lacks at least so many firings, of which there is one, and has their tokens
pub record IsReadyFor (channels : List SchedEdge) (q : List ℕ) (fired : ℕ → ℕ) (child times : ℕ) : Type 0 where
  pub some : 0 < times
  pub lacking : fired child + times ≤ slice_index q child
  pub tokens : HasTokensFor channels fired child times

-- a child that is ready; or one that lacks firings where none is ready; or no child lacks firings
abbrev pub ComesNext : List SchedEdge → List ℕ → (ℕ → ℕ) → Next → Type 0
ComesNext channels q fired (Ready child) = IsReady channels q fired child
ComesNext channels q fired (Stuck child) = (fired child < slice_index q child) × ((other : ℕ) → ¬ IsReady channels q fired other)
ComesNext channels q fired Over = (child : ℕ) → slice_index q child ≤ fired child
