-- Variables by number: for each entity its row, then its ports, one entity after the other.
use Rattle.std.specs.Prelude.{◌≡◌, ℕ, zero, suc, ◌+◌, List, [], ◌∷◌, length, slice_index, slice_index_or, Bool, if◌then◌else◌}
use Rattle.std.proofs.Math.Dec.{ltb}
use Rattle.pt_typing.specs.declared.variable.Variable.{Variable}
use Rattle.pt_typing.specs.declared.variable.Variable.TheVariants.{Port, Row}
use Rattle.pt_typing.specs.declared.numbers.Numbers.{Numbers}

-- the number of the row of an entity, where entities have so many ports; past the last entity that of all variables
abbrev pub row_number : List ℕ → ℕ → ℕ
row_number [] k = 0
row_number (c ∷ cs) zero = 0
row_number (c ∷ cs) (suc k) = suc (c + row_number cs k)

abbrev pub total : List ℕ → ℕ
total [] = 0
total (c ∷ cs) = suc (c + total cs)

-- a number below this bound, or else that of all variables
abbrev pub within : ℕ → ℕ → ℕ → ℕ
within n bound all = if ltb n bound then n else all

abbrev pub port_number : List ℕ → ℕ → ℕ → ℕ
port_number cs k i = within (row_number cs k + suc i) (row_number cs (suc k)) (total cs)

-- the number of a variable; what isn't there has that of all variables
abbrev pub number : List ℕ → Variable → ℕ
number cs (Port k i) = port_number cs k i
number cs (Row k) = row_number cs k

-- whether there is such an entity, and such a port of it
abbrev pub is_there : List ℕ → Variable → Bool
is_there cs (Port k i) = ltb i (slice_index cs k)
is_there cs (Row k) = ltb k (length cs)

-- ---- what the program holds

abbrev pub row_in : Numbers → ℕ → ℕ
row_in numbers k = slice_index_or numbers.starts.items k numbers.all

abbrev pub port_in : Numbers → ℕ → ℕ → ℕ
port_in numbers k i = within (row_in numbers k + suc i) (row_in numbers (suc k)) numbers.all

abbrev pub number_in : Numbers → Variable → ℕ
number_in numbers (Port k i) = port_in numbers k i
number_in numbers (Row k) = row_in numbers k

-- these numbers are those of the variables
pub record AreNumbers (cs : List ℕ) (numbers : Numbers) : Type 0 where
  pub rows : (k : ℕ) → row_in numbers k ≡ row_number cs k
  pub all : numbers.all ≡ total cs
