-- Wakes as the leaves of a tree in which each node has the lesser wake of the two below it, so that node 1 has the least of all.
-- Below node p are the nodes 2p and 2p + 1. The leaves are the second half of the nodes, and node 0 is unused.
use Rattle.std.specs.Prelude.{◌≡◌, ℕ, suc, ◌+◌, ◌<◌, List, length, get_or, set, Option, None}
use Rattle.pt_meaning.specs.Tag.{Tag, earlier}

abbrev pub node : List (Option Tag) → ℕ → Option Tag
node nodes p = get_or nodes p None

-- the lesser wake of the two below node p
abbrev pub below : List (Option Tag) → ℕ → Option Tag
below nodes p = earlier (node nodes (p + p)) (node nodes (suc (p + p)))

-- node p has it
abbrev pub IsSettled : List (Option Tag) → ℕ → Type 0
IsSettled nodes p = node nodes p ≡ below nodes p

-- the nodes, once node p has it
abbrev pub settled : List (Option Tag) → ℕ → List (Option Tag)
settled nodes p = set nodes p (below nodes p)

-- each node that isn't a leaf has the lesser wake of the two below it
pub record IsTree (leaves : ℕ) (nodes : List (Option Tag)) : Type 0 where
  pub len : length nodes ≡ leaves + leaves
  pub settled : (p : ℕ) → 0 < p → p < leaves → IsSettled nodes p

-- each has it but the one above node q
pub record IsTreeBut (q leaves : ℕ) (nodes : List (Option Tag)) : Type 0 where
  pub len : length nodes ≡ leaves + leaves
  pub settled : (p : ℕ) → 0 < p → p < leaves → (p + p ≡ q → ⊥) → (suc (p + p) ≡ q → ⊥) → IsSettled nodes p

-- each has it from node q on
pub record IsTreeFrom (q leaves : ℕ) (nodes : List (Option Tag)) : Type 0 where
  pub len : length nodes ≡ leaves + leaves
  pub settled : (p : ℕ) → q < suc p → p < leaves → IsSettled nodes p
