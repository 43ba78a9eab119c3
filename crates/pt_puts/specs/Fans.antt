-- Tables of the channels that begin at each source: a row for each process, and in it a list for each port.
use Rattle.std.specs.Prelude.{◌≡◌, ℕ, ◌<◌, List, [], ◌++◌, nat_eq, map, get_or, Vec}
use Rattle.std.specs.Global.{Global}
use Rattle.pt_meaning.specs.Net as net
use Rattle.pt_meaning.specs.Process.{listed_if}

-- the channel begins at an own input, or at an output of one of n processes
abbrev pub IsNamed : ℕ → net.Source → Type 0
IsNamed n (net.Own port) = Unit {0}
IsNamed n (net.Output child port) = child < n

-- the lists of rows of rows
abbrev pub fans_in : List (Vec (Vec ℕ Global) Global) → List (List (List ℕ))
fans_in rows = map (λ row. map (λ fan. fan.items) row.items) rows

abbrev pub fan_at : List (List (List ℕ)) → ℕ → ℕ → List ℕ
fan_at fans i p = get_or (get_or fans i []) p []

-- of one process the channels that begin at each port, once channel c is noted, which begins at port p
abbrev pub RowMore : ℕ → ℕ → List (List ℕ) → List (List ℕ) → Type 0
RowMore p c before after = (q : ℕ) → get_or after q [] ≡ get_or before q [] ++ listed_if (nat_eq q p) c []

abbrev pub row_in : List (Vec ℕ Global) → List (List ℕ)
row_in row = map (λ fan. fan.items) row
