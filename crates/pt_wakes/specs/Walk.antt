-- The leaves of a tree of wakes that are due at a tag, in the order from left to right.
use Rattle.std.specs.Prelude.{ℕ, zero, suc, ◌+◌, ◌-◌, ◌/◌, Bool, true, List, [], ◌∷◌, ◌++◌, set, nat_eq, nat_le, Option, if◌then◌else◌}
use Rattle.pt_meaning.specs.Tag.{Tag, is_due}
use Rattle.pt_wakes.specs.Nodes.{node}

-- those below node p, at most so many nodes down: below a node that isn't due there are none
abbrev pub dues : (depth : ℕ) → Tag → (leaves : ℕ) → List (Option Tag) → ℕ → List ℕ
dues zero tag leaves nodes p = []
dues (suc k) tag leaves nodes p = if is_due tag (node nodes p) then (if nat_le leaves p then p ∷ [] else dues k tag leaves nodes (p + p) ++ dues k tag leaves nodes (suc (p + p))) else []

-- all of them: no way down is longer than there are nodes
abbrev pub due_below : Tag → (leaves : ℕ) → List (Option Tag) → ℕ → List ℕ
due_below tag leaves nodes p = dues (leaves + leaves) tag leaves nodes p

-- those to the right of node p, at most so many nodes up: below the right neighbour of a left node, and to the right of the node above
abbrev pub rights : (height : ℕ) → Tag → (leaves : ℕ) → List (Option Tag) → ℕ → List ℕ
rights zero tag leaves nodes p = []
rights (suc k) tag leaves nodes p =
    let h : ℕ = p / 2 in
    if nat_eq h 0 then [] else (if nat_eq p (h + h) then due_below tag leaves nodes (suc (h + h)) else []) ++ rights k tag leaves nodes h

-- all of them: there are no more than p nodes above node p
abbrev pub behind : Tag → (leaves : ℕ) → List (Option Tag) → ℕ → List ℕ
behind tag leaves nodes p = rights p tag leaves nodes p

-- those from node p on, where node 0 stands behind all
abbrev pub remaining : Tag → (leaves : ℕ) → List (Option Tag) → ℕ → List ℕ
remaining tag leaves nodes zero = []
remaining tag leaves nodes (suc k) = due_below tag leaves nodes (suc k) ++ behind tag leaves nodes (suc k)

-- which children are due, once those of these leaves are
abbrev pub marked : (leaves : ℕ) → List ℕ → List Bool → List Bool
marked leaves [] due = due
marked leaves (q ∷ qs) due = marked leaves qs (set due (q - leaves) true)
