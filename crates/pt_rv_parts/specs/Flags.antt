-- Flags, and the list of those that are set.
use Rattle.std.specs.Prelude.{◌≡◌, ℕ, ◌+◌, ◌<◌, ◌≤◌, List, [], ◌∷◌, Bool, true, false, length, get_or, vec_capacity}
use Rattle.pt_rv_parts.specs.declared.flags.Flags.TheInside.{Inside}

abbrev pub one_if_set : Bool → ℕ
one_if_set true = 1
one_if_set false = 0

-- how many flags are set
abbrev pub set_in : List Bool → ℕ
set_in [] = 0
set_in (f ∷ fs) = one_if_set f + set_in fs

-- the numbers of the flags that are set, each once, and where each stands
pub record AreListed (flags : List Bool) (numbers places : List ℕ) : Type 0 where
  pub counted : length places ≡ length flags
  pub many : length numbers ≡ set_in flags
  pub set : (k : ℕ) → k < length numbers → get_or flags (get_or numbers k 0) false ≡ true
  pub back : (k : ℕ) → k < length numbers → get_or places (get_or numbers k 0) 0 ≡ k
  pub listed : (i : ℕ) → get_or flags i false ≡ true → (get_or places i 0 < length numbers) × (get_or numbers (get_or places i 0) 0 ≡ i)

pub record IsSound (f : Inside) : Type 0 where
  pub listed : AreListed f.flags.items f.numbers.items f.places.items
  pub room : length f.flags.items ≤ vec_capacity f.numbers
