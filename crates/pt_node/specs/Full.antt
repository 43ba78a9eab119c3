-- How a process network in a jam is told.
use Rattle.std.specs.Prelude.{◌≡◌, ℕ, List, [], get_or, map, Some}
use Rattle.pt_meaning.specs.Basics.{Path}
use Rattle.pt_firing.specs.declared.answer.Blocked.{Blocked}
use Rattle.pt_node.specs.View.{Outline, text_at, labels_at}

-- full channels by number, each by its label
abbrev pub told_by : (labels : List (List ℕ)) → List (ℕ × ℕ) → List (List ℕ × ℕ)
told_by labels full = map (λ (c : ℕ × ℕ). (get_or labels c.0 [], c.1)) full

-- the network at a path of the tree is told by the text of its path, and the channels that are full there by their labels
pub record IsToldFull (names : Outline) (p : Path) (full : List (ℕ × ℕ)) (blocked : Blocked) : Type 0 where
  pub path_is : text_at names p ≡ Some blocked.path
  pub channels : blocked.channels ≡ told_by (labels_at names p) full
