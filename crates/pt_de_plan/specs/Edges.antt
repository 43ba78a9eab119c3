-- The edges from children to those that they feed at the same tag, as the planner lists them: channel by channel.
use Rattle.std.specs.Prelude.{ℕ, suc, List, [], ◌∷◌, ◌++◌, Bool, true, false, take, drop}
use Rattle.pt_meaning.specs.Net.{Source, Own, Output}

-- the edge of a channel that ends at child i, unless it ends at a delay
abbrev pub edge_of : ℕ → Source → Bool → List (ℕ × ℕ)
edge_of i (Own port) delayed = []
edge_of i (Output child port) true = []
edge_of i (Output child port) false = (child, i) ∷ []

-- those of channels that all end at child i
abbrev pub edges_to : ℕ → List Source → List Bool → List (ℕ × ℕ)
edges_to i [] flags = []
edges_to i (c ∷ cs) [] = []
edges_to i (c ∷ cs) (f ∷ fs) = edge_of i c f ++ edges_to i cs fs

-- those of the channels of children with so many places each, the first of which is child i
abbrev pub edges_from : ℕ → List ℕ → List Source → List Bool → List (ℕ × ℕ)
edges_from i [] sources flags = []
edges_from i (n ∷ ns) sources flags = edges_to i (take n sources) (take n flags) ++ edges_from (suc i) ns (drop n sources) (drop n flags)
