-- Depths of the children of a DE composite, and directed loops (the book, "Discrete-Event Models").
-- An edge goes from a child to one that it feeds in the same microstep: inputs that are delays have none.
use Rattle.std.specs.Prelude.{◌≡◌, ℕ, ◌+◌, ◌-◌, ◌<◌, ◌==◌, max, List, [], ◌∷◌, length, map, All, Contains, slice_index}
use Rattle.std.specs.List.{filter}
use Rattle.pt_events.specs.declared.depth.DepthFault.{DepthFault}
use Rattle.pt_events.specs.declared.depth.DepthFault.TheVariants.{Loop, Memory}

-- both ends of an edge are children, of which there are n
abbrev pub IsBetween : ℕ → ℕ × ℕ → Type 0
IsBetween n edge = (edge.0 < n) × (edge.1 < n)

-- each edge goes from a child to a child
abbrev pub AreBetween : ℕ → List (ℕ × ℕ) → Type 0
AreBetween n edges = All (IsBetween n) edges

-- the children that feed a child, as often as they do
abbrev pub feeders : List (ℕ × ℕ) → ℕ → List ℕ
feeders edges child = map (λ edge. edge.0) (filter (λ edge. edge.1 == child) edges)

-- one more than the greatest of these children's depths, and 0 where there is no child
abbrev pub depth_after : List ℕ → List ℕ → ℕ
depth_after depths [] = 0
depth_after depths (child ∷ children) = max (slice_index depths child + 1) (depth_after depths children)

-- the depth of each of n children: 0 where no child feeds it, else one more than the greatest depth of those that do
pub record AreDepths (n : ℕ) (edges : List (ℕ × ℕ)) (depths : List ℕ) : Type 0 where
  pub counted : length depths ≡ n
  pub each : (child : ℕ) → child < n → slice_index depths child ≡ depth_after depths (feeders edges child)

-- one child feeds the other
abbrev pub Feeds : List (ℕ × ℕ) → ℕ → ℕ → Type 0
Feeds edges from to = Contains edges (from, to)

-- there is a child, each has the relation to the next, and the last to the first
pub record IsCycle (R : ℕ → ℕ → Type 0) (children : List ℕ) : Type 0 where
  pub some : 0 < length children
  pub next : (k : ℕ) → k + 1 < length children → R (slice_index children k) (slice_index children (k + 1))
  pub closed : R (slice_index children (length children - 1)) (slice_index children 0)

-- a directed loop: each child feeds the next, and the last the first
abbrev pub IsLoop : List (ℕ × ℕ) → List ℕ → Type 0
IsLoop edges children = IsCycle (Feeds edges) children

-- when each answer that isn't the depths may come: want of memory always
abbrev pub FaultStands : List (ℕ × ℕ) → DepthFault → Type 0
FaultStands edges (Loop children) = IsLoop edges children.items
FaultStands edges Memory = Unit {0}
