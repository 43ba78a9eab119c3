-- Where the core stands in an order of stretches.
use Rattle.std.specs.Prelude.{◌≡◌, ℕ, zero, suc, ◌+◌, ◌-◌, ◌<◌, ◌≤◌, List, [], ◌∷◌, length, nat_eq, slice_index_or, Bool, true, false}
use Rattle.pt_sched.specs.Stretches.{spread}
use Rattle.pt_sched.specs.declared.stretch.Stretch.{Stretch}

-- what stands for a stretch behind the last
abbrev pub no_stretch : Stretch
no_stretch = record { child = 0; again = 0 }

-- how many firings are made where so many stretches are over, and so many firings of the next one are made
abbrev pub place_at : (at done : ℕ) → List Stretch → ℕ
place_at zero done order = done
place_at (suc at) done [] = done
place_at (suc at) done (stretch ∷ order) = suc stretch.again + place_at at done order

-- there is such a stretch, and one of its firings at least isn't made
pub record IsWithin (order : List Stretch) (at done : ℕ) : Type 0 where
  pub there : at < length order
  pub begun : done ≤ (slice_index_or order at no_stretch).again

-- the number of turns that are left, and the place in the order, after one firing more, which may be the last of a turn
abbrev pub place_behind : (is_last : Bool) → (left at : ℕ) → ℕ × ℕ
place_behind true left at = (left - 1, 0)
place_behind false left at = (left, at + 1)

-- one firing further, which may be the last of a turn
pub record IsAdvanced (order : List Stretch) (left at done left' at' done' : ℕ) : Type 0 where
  pub place : (left', place_at at' done' order) ≡ place_behind (nat_eq (place_at at done order + 1) (length (spread order))) left (place_at at done order)
  pub within : IsWithin order at' done'

-- how many turns of an order are to be made: one without firings is over at once
abbrev pub left_at_first : (order : List ℕ) → (turns : ℕ) → ℕ
left_at_first [] turns = 0
left_at_first (child ∷ order) turns = turns
