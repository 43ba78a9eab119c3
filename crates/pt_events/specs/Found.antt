-- What the search for depths keeps: the feeders of each child, the children whose depth is known, and a walk back from one that is stuck.
use Rattle.std.specs.Prelude.{◌≡◌, ℕ, ◌+◌, ◌-◌, ◌<◌, Bool, true, false, List, [], length, All, Contains, count_by, Option, Some, None, slice_index, slice_index_or}
use Rattle.pt_events.specs.Depths.{feeders, depth_after}
use Rattle.pt_events.specs.declared.search.Next.{Next}
use Rattle.pt_events.specs.declared.search.Next.TheVariants.{Ready, Stuck, Over}

-- the list of a child
abbrev pub list_at : List (List ℕ) → ℕ → List ℕ
list_at lists child = slice_index_or lists child []

-- a list for each of n children: those that feed it
pub record AreFeeders (n : ℕ) (edges : List (ℕ × ℕ)) (lists : List (List ℕ)) : Type 0 where
  pub counted : length lists ≡ n
  pub each : (child : ℕ) → child < n → list_at lists child ≡ feeders edges child

-- each child in a list has a list
abbrev pub AreInside : List (List ℕ) → Type 0
AreInside lists = (child : ℕ) → child < length lists → All (λ feeder. feeder < length lists) (list_at lists child)

-- one child is in the list of the other
abbrev pub FeedsBy : List (List ℕ) → ℕ → ℕ → Type 0
FeedsBy lists from to = Contains (list_at lists to) from

-- whether the depth of a child is known
abbrev pub is_known : List Bool → ℕ → Bool
is_known known child = slice_index_or known child false

-- the depths of all these children are known
abbrev pub AreKnown : List Bool → List ℕ → Type 0
AreKnown known children = All (λ child. is_known known child ≡ true) children

-- how many depths are known
abbrev pub known_count : List Bool → ℕ
known_count known = count_by (λ b. b) known

-- each known depth is one more than the greatest of the feeders', which are known
pub record IsFound (lists : List (List ℕ)) (known : List Bool) (depths : List ℕ) : Type 0 where
  pub flags : length known ≡ length lists
  pub counted : length depths ≡ length lists
  pub fed : (child : ℕ) → is_known known child ≡ true → AreKnown known (list_at lists child)
  pub depth : (child : ℕ) → is_known known child ≡ true → slice_index depths child ≡ depth_after depths (list_at lists child)
  pub small : (child : ℕ) → is_known known child ≡ true → slice_index depths child < known_count known

-- the depth of a child isn't known, and those of its feeders are
pub record IsReady (lists : List (List ℕ)) (known : List Bool) (child : ℕ) : Type 0 where
  pub inside : child < length lists
  pub unknown : is_known known child ≡ false
  pub fed : AreKnown known (list_at lists child)

-- the depth of a child isn't known, and no child is ready
pub record IsStuck (lists : List (List ℕ)) (known : List Bool) (child : ℕ) : Type 0 where
  pub inside : child < length lists
  pub unknown : is_known known child ≡ false
  pub none : (other : ℕ) → ¬ IsReady lists known other

-- a child that is ready; or one of unknown depth where none is ready; or all depths are known
abbrev pub ComesNext : List (List ℕ) → List Bool → Next → Type 0
ComesNext lists known (Ready child) = IsReady lists known child
ComesNext lists known (Stuck child) = IsStuck lists known child
ComesNext lists known Over = (child : ℕ) → child < length lists → is_known known child ≡ true

-- the place of a child in the walk, where it has one
abbrev pub place_of : List (Option ℕ) → ℕ → Option ℕ
place_of places child = slice_index_or places child None

-- a walk back from one child of unknown depth to the next, each fed by the one after it and the last by the child that comes now
pub record IsWalk (lists : List (List ℕ)) (known : List Bool) (path : List ℕ) (places : List (Option ℕ)) (child : ℕ) : Type 0 where
  pub inside : child < length lists
  pub unknown : is_known known child ≡ false
  pub counted : length places ≡ length lists
  pub steps : (k : ℕ) → k + 1 < length path → FeedsBy lists (slice_index path (k + 1)) (slice_index path k)
  pub last : 0 < length path → FeedsBy lists child (slice_index path (length path - 1))
  pub placed : (other place : ℕ) → place_of places other ≡ Some place → (place < length path) × (slice_index path place ≡ other)
