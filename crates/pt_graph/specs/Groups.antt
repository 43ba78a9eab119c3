-- Groups of numbered things, as a table of the group of each and a table of the members of each.
use Rattle.std.specs.Prelude.{◌≡◌, ◌≢◌, ℕ, ◌<◌, ◌⊎◌, List, [], length, map, slice_index, slice_index_or}
use Rattle.std.specs.List.{All, Contains}
use Rattle.pt_graph.specs.declared.groups.Groups.{Groups}

abbrev pub members : List (List ℕ) → ℕ → List ℕ
members rows c = slice_index_or rows c []

-- the two tables agree
pub record Agree (count : ℕ) (group : List ℕ) (rows : List (List ℕ)) : Type 0 where
  pub things : length group ≡ count
  pub groups : length rows ≡ count
  pub within : (t : ℕ) → t < count → slice_index group t < count
  pub complete : (t : ℕ) → t < count → Contains (members rows (slice_index group t)) t
  pub sound : (c t : ℕ) → c < count → Contains (members rows c) t → (t < count) × (slice_index group t ≡ c)

-- the tables of these groups agree
abbrev pub IsKept : ℕ → Groups → Type 0
IsKept count g = Agree count g.group.items (map (λ v. v.items) g.members.items)

-- these things got this group, and no others changed theirs
pub record Relabels (things : List ℕ) (to : ℕ) (old new : List ℕ) : Type 0 where
  pub each : All (λ t. slice_index new t ≡ to) things
  pub others : (t : ℕ) → (slice_index new t ≡ slice_index old t) ⊎ (Contains things t × (slice_index new t ≡ to))

-- the things of one group went to another, and all others stayed
pub record Moves (count from to : ℕ) (old new : List ℕ) : Type 0 where
  pub moved : (t : ℕ) → t < count → slice_index old t ≡ from → slice_index new t ≡ to
  pub kept : (t : ℕ) → t < count → slice_index old t ≢ from → slice_index new t ≡ slice_index old t

-- the groups of a and b became one, and nothing else changed
pub record Merges (count a b : ℕ) (old new : List ℕ) : Type 0 where
  pub one : slice_index new a ≡ slice_index new b
  pub same : (s t : ℕ) → s < count → t < count → slice_index old s ≡ slice_index old t → slice_index new s ≡ slice_index new t
  pub only : (s t : ℕ) → s < count → t < count → slice_index new s ≡ slice_index new t → (slice_index old s ≡ slice_index old t) ⊎ ((slice_index old s ≡ slice_index old a) × (slice_index old t ≡ slice_index old b)) ⊎ ((slice_index old s ≡ slice_index old b) × (slice_index old t ≡ slice_index old a))
