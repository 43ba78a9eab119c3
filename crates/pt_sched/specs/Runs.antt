-- Runs of a dataflow graph: orders of firings in which each has its tokens (the book, "Dataflow").
use Rattle.std.specs.Prelude.{◌≡◌, ℕ, ◌+◌, ◌-◌, ◌*◌, ◌<◌, ◌≤◌, ◌==◌, List, [], ◌∷◌, ◌++◌, length, take, All, count_by, slice_index, slice_index_or}
use Rattle.pt_sched.specs.declared.edge.SchedEdge.{SchedEdge}

-- how often each child fires in an order
abbrev pub firings : List ℕ → ℕ → ℕ
firings order child = count_by (λ other. other == child) order

-- the tokens that are put on a channel, with the first ones, and those that are taken, where each child fires so often
abbrev pub put_on : SchedEdge → (ℕ → ℕ) → ℕ
put_on channel fired = channel.initial + fired channel.edge.from * channel.edge.produced

abbrev pub taken_from : SchedEdge → (ℕ → ℕ) → ℕ
taken_from channel fired = fired channel.edge.to * channel.edge.consumed

-- the length of a channel
abbrev pub length_after : SchedEdge → (ℕ → ℕ) → ℕ
length_after channel fired = put_on channel fired - taken_from channel fired

-- each channel that ends at the child holds what its next firing takes
abbrev pub HasTokens : List SchedEdge → (ℕ → ℕ) → ℕ → Type 0
HasTokens channels fired child = All (λ channel. channel.edge.to ≡ child → taken_from channel fired + channel.edge.consumed ≤ put_on channel fired) channels

-- an order in which each firing has its tokens, and no child fires more often than q says
pub data IsRun (channels : List SchedEdge) (q : List ℕ) : List ℕ → Type 0 where
  at_first : IsRun channels q []
  fires : (order : List ℕ) (child : ℕ) → IsRun channels q order → firings order child < slice_index q child → HasTokens channels (firings order) child → IsRun channels q (order ++ child ∷ [])

-- a run in which each child fires as often as q says
pub record IsSchedule (channels : List SchedEdge) (q : List ℕ) (order : List ℕ) : Type 0 where
  pub run : IsRun channels q order
  pub complete : (child : ℕ) → firings order child ≡ slice_index q child

-- a run after which no child that lacks firings has its tokens
pub record IsStuck (channels : List SchedEdge) (q : List ℕ) (order : List ℕ) : Type 0 where
  pub run : IsRun channels q order
  pub none : (child : ℕ) → firings order child < slice_index q child → ¬ HasTokens channels (firings order) child

-- the greatest of the lengths that a channel has before, between and after the firings of an order
pub record IsGreatestLength (channel : SchedEdge) (order : List ℕ) (most : ℕ) : Type 0 where
  pub met : (k : ℕ) × (k ≤ length order) × (length_after channel (firings (take k order)) ≡ most)
  pub bound : (k : ℕ) → k ≤ length order → length_after channel (firings (take k order)) ≤ most

-- the greatest length of each channel, in the order of the channels
pub record AreGreatestLengths (channels : List SchedEdge) (order : List ℕ) (lengths : List ℕ) : Type 0 where
  pub counted : length lengths ≡ length channels
  pub greatest : (k : ℕ) (other : SchedEdge) → k < length channels → IsGreatestLength (slice_index_or channels k other) order (slice_index lengths k)
