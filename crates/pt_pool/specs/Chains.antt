-- Cells that are linked by index: next has, at each cell, the cell that follows it.
use Rattle.std.specs.Prelude.{ℕ, zero, suc, ◌+◌, List, [], ◌∷◌, slice_index_or, nat_eq, if◌then◌else◌}

-- the n cells that the links name from this one on
abbrev pub chain : List ℕ → ℕ → ℕ → List ℕ
chain next zero cell = []
chain next (suc n) cell = cell ∷ chain next n (slice_index_or next cell 0)

-- the cell n links further on
abbrev pub after : List ℕ → ℕ → ℕ → ℕ
after next zero cell = cell
after next (suc n) cell = after next n (slice_index_or next cell 0)

-- how often the cell stands in a list
abbrev pub times : ℕ → List ℕ → ℕ
times cell [] = 0
times cell (c ∷ cs) = (if nat_eq cell c then 1 else 0) + times cell cs

-- how often it stands in some lists together
abbrev pub times_in : ℕ → List (List ℕ) → ℕ
times_in cell [] = 0
times_in cell (cs ∷ rest) = times cell cs + times_in cell rest
