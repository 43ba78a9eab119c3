-- The channels at each child, by number.
use Rattle.std.specs.Prelude.{◌≡◌, ℕ, ◌<◌, List, [], length, Contains, slice_index_or}
use Rattle.pt_sched.specs.declared.edge.SchedEdge.{SchedEdge}
use Rattle.pt_sched.specs.declared.lists.Side.{Side}
use Rattle.pt_sched.specs.declared.lists.Side.TheVariants.{Start, End}

-- the child at a side of a channel
abbrev pub child_at : Side → SchedEdge → ℕ
child_at Start channel = channel.edge.from
child_at End channel = channel.edge.to

-- the numbers of the channels that have the child at this side, in any order
pub record AreAt (side : Side) (channels : List SchedEdge) (child : ℕ) (numbers : List ℕ) : Type 0 where
  pub every : (k : ℕ) (other : SchedEdge) → k < length channels → child_at side (slice_index_or channels k other) ≡ child → Contains numbers k
  pub only : (k : ℕ) → Contains numbers k → (k < length channels) × ((other : SchedEdge) → child_at side (slice_index_or channels k other) ≡ child)

-- a list for each of n children
pub record AreListed (n : ℕ) (side : Side) (channels : List SchedEdge) (lists : List (List ℕ)) : Type 0 where
  pub counted : length lists ≡ n
  pub lists_at : (child : ℕ) → child < n → AreAt side channels child (slice_index_or lists child [])
