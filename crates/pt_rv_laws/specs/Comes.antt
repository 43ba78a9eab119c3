-- What comes next is open in no state where nothing may come.
use Rattle.std.specs.Prelude.{◌⊎◌, ℕ}
use Rattle.pt_meaning.specs.Log.{Meeting}
use Rattle.pt_rv_laws.specs.State.{RvState, MayFire, AllRest, IsLegal, IsOver}

-- a process may fire, or none may and a meeting is legal, or the firing is over
abbrev pub SomethingComes : {T : Type 0} → RvState T → Type 0
SomethingComes s = ((i : ℕ) × MayFire s i) ⊎ ((AllRest s × (m : Meeting) × IsLegal s m) ⊎ IsOver s)

abbrev pub AlwaysComes : Type 0 → Type 0
AlwaysComes T = (s : RvState T) → SomethingComes s
