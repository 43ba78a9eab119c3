-- Some children, each at its depth, and which of them are due: such a child has its turn where none that is due is less deep.
use Rattle.std.specs.Prelude.{◌≡◌, ℕ, ◌<◌, ◌≤◌, List, Bool, true, false, length, get_or, set}

-- the depth of each child, and whether it is due
pub record DueSet : Type 0 where
  pub depths : List ℕ
  pub due : List Bool

abbrev pub is_due_child : DueSet → ℕ → Bool
is_due_child s i = get_or s.due i false

abbrev pub depth_of : DueSet → ℕ → ℕ
depth_of s i = get_or s.depths i 0

-- child i is due, and none that is due is less deep
pub record IsFirst (s : DueSet) (i : ℕ) : Type 0 where
  pub there : i < length s.due
  pub due : is_due_child s i ≡ true
  pub least : (j : ℕ) → j < length s.due → is_due_child s j ≡ true → depth_of s i ≤ depth_of s j

-- no child is due
abbrev pub NoneDue : DueSet → Type 0
NoneDue s = (j : ℕ) → j < length s.due → is_due_child s j ≡ false

-- the same children, of which child i is due or isn't
abbrev pub with_due : DueSet → ℕ → Bool → DueSet
with_due s i is_due = record { depths = s.depths; due = set s.due i is_due }
