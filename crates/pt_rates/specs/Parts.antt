-- The parts that some channels connect, as the solver holds them.
use Rattle.std.specs.Prelude.{◌≡◌, ◌≢◌, ℕ, ◌+◌, ◌*◌, ◌<◌, ◌≤◌, ◌⊎◌, Bool, true, false, List, [], ◌∷◌, ◌++◌, length, All, Contains, sum, set, slice_index, slice_index_or}
use Rattle.pt_rates.specs.Balance.{IsSolution, IsBalancedAt}
use Rattle.pt_rates.specs.declared.edge.Edge.{Edge}
use Rattle.pt_rates.specs.declared.parts.Parts.{Parts}

abbrev pub label_of : Parts → ℕ → ℕ
label_of parts node = slice_index parts.labels.items node

abbrev pub repetitions_of : Parts → ℕ → ℕ
repetitions_of parts node = slice_index parts.repetitions.items node

abbrev pub members_of : Parts → ℕ → List ℕ
members_of parts label = slice_index_or parts.members.items label []

-- each node has repetitions, is listed in its part, and counts in the sum
pub record AreHeld (parts : Parts) : Type 0 where
  pub counted : length parts.repetitions.items ≡ length parts.labels.items
  pub listed : (node : ℕ) → node < length parts.labels.items → Contains (members_of parts (label_of parts node)) node
  pub summed : parts.sum ≡ sum parts.repetitions.items

-- The positive solutions of the channels are the repetitions with each part multiplied by a number of its own.
pub record IsSpanned (n : ℕ) (edges : List Edge) (parts : Parts) : Type 0 where
  pub positive : (node : ℕ) → node < n → 0 < repetitions_of parts node
  pub multiples : (times : ℕ → ℕ) (q : List ℕ) → ((node : ℕ) → node < n → slice_index q node ≡ times (label_of parts node) * repetitions_of parts node) → All (IsBalancedAt q) edges
  pub only : (q : List ℕ) → IsSolution n edges q → (times : ℕ → ℕ) × ((node : ℕ) → node < n → slice_index q node ≡ times (label_of parts node) * repetitions_of parts node)

-- one channel more: it is spanned too, or no solution of those before balances it
abbrev pub ComesAfter : Edge → Parts → Parts → Bool → Type 0
ComesAfter edge old new true = (n : ℕ) (edges : List Edge) → n ≡ length old.labels.items → IsSpanned n edges old → IsSpanned n (edges ++ edge ∷ []) new
ComesAfter edge old new false = (n : ℕ) (edges : List Edge) → n ≡ length old.labels.items → IsSpanned n edges old → (q : List ℕ) → IsSolution n edges q → ¬ IsBalancedAt q edge

-- no repetition in the part is above 1,000,000
abbrev pub AreSmall : ℕ → Parts → Type 0
AreSmall label parts = (node : ℕ) → label_of parts node ≡ label → repetitions_of parts node ≤ 1000000

-- the nodes of one part are in another, with their repetitions multiplied, and all others as before
pub record AreMoved (from to times : ℕ) (old new : Parts) : Type 0 where
  pub moved : (node : ℕ) → node < length old.labels.items → label_of old node ≡ from → (label_of new node ≡ to) × (repetitions_of new node ≡ times * repetitions_of old node)
  pub kept : (node : ℕ) → node < length old.labels.items → label_of old node ≢ from → (label_of new node ≡ label_of old node) × (repetitions_of new node ≡ repetitions_of old node)

-- two parts are one, with the repetitions of each multiplied, and all other parts as before
pub record AreMerged (first first_times second second_times : ℕ) (old new : Parts) : Type 0 where
  pub label : ℕ
  pub firsts : (node : ℕ) → node < length old.labels.items → label_of old node ≡ first → (label_of new node ≡ label) × (repetitions_of new node ≡ first_times * repetitions_of old node)
  pub seconds : (node : ℕ) → node < length old.labels.items → label_of old node ≡ second → (label_of new node ≡ label) × (repetitions_of new node ≡ second_times * repetitions_of old node)
  pub others : (node : ℕ) → node < length old.labels.items → label_of old node ≢ first → label_of old node ≢ second → (label_of new node ≡ label_of old node) × (label_of new node ≢ label) × (repetitions_of new node ≡ repetitions_of old node)

-- a node of the part is put into the other, and its repetitions are multiplied
pub record IsPut (node to times : ℕ) (old new : Parts) : Type 0 where
  pub labels : new.labels.items ≡ set old.labels.items node to
  pub repetitions : new.repetitions.items ≡ set old.repetitions.items node (times * repetitions_of old node)
  pub members : new.members.items ≡ set old.members.items to (members_of old to ++ node ∷ [])
  pub sum : new.sum + repetitions_of old node ≡ old.sum + times * repetitions_of old node

abbrev pub IsNodeMoved : ℕ → ℕ → ℕ → ℕ → Parts → Parts → Type 0
IsNodeMoved node from to times old new =
    ((node < length old.labels.items) × (label_of old node ≡ from) × IsPut node to times old new)
    ⊎ ((new ≡ old) × (node < length old.labels.items → label_of old node ≢ from))
