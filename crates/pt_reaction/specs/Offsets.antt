-- Where the places of each child begin, and where those of all end; and the child at whose place each channel ends.
use Rattle.std.specs.Prelude.{ℕ, suc, ◌+◌, ◌-◌, List, [], ◌∷◌, ◌++◌, length, replicate}
use Rattle.pt_meaning.specs.Running.{total}

abbrev pub begins : ℕ → List ℕ → List ℕ
begins o [] = o ∷ []
begins o (p ∷ ps) = o ∷ begins (o + p) ps

-- the children from number k on, once for each of their places
abbrev pub readers : ℕ → List ℕ → List ℕ
readers k [] = []
readers k (p ∷ ps) = replicate p k ++ readers (suc k) ps

-- and behind them the number of children, for each own output
abbrev pub all_readers : List ℕ → (channels : ℕ) → List ℕ
all_readers places channels = readers 0 places ++ replicate (channels - total places) (length places)
