-- Where channels end, row by row.
use Rattle.std.specs.Prelude.{ℕ, zero, suc, List, [], ◌∷◌, ◌++◌}
use Rattle.pt_meaning.specs.Meetings.{Target, Place, Outlet}

-- so many places of a process, from place q on
abbrev pub places_row : (child q : ℕ) → ℕ → List Target
places_row child q zero = []
places_row child q (suc n) = Place child q ∷ places_row child (suc q) n

-- so many own outputs, from output o on
abbrev pub outlets_row : (o : ℕ) → ℕ → List Target
outlets_row o zero = []
outlets_row o (suc n) = Outlet o ∷ outlets_row (suc o) n

-- the places of these processes, from process i on
abbrev pub targets_to : (i : ℕ) → List ℕ → List Target
targets_to i [] = []
targets_to i (n ∷ ns) = places_row i 0 n ++ targets_to (suc i) ns
