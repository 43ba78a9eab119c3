-- The numbers of names in a list of them.
use Rattle.std.specs.Prelude.{ℕ, suc, List, [], ◌∷◌, Option, Some, None, bytes_eq, if◌then◌else◌}

abbrev pub Numbers : Type 0
Numbers = List ℕ → Option ℕ

abbrev pub no_numbers : Numbers
no_numbers name = None

abbrev pub with_number : List ℕ → ℕ → Numbers → Numbers
with_number name k numbers other = if bytes_eq name other then Some k else numbers other

-- with those of some names, the first of which has this number
abbrev pub with_numbers : ℕ → List (List ℕ) → Numbers → Numbers
with_numbers k [] numbers = numbers
with_numbers k (name ∷ names) numbers = with_numbers (suc k) names (with_number name k numbers)

-- the number of a name among these. In a document the names of one kind differ; of several that are one the last counts
abbrev pub number_of : List (List ℕ) → Numbers
number_of names = with_numbers 0 names no_numbers
