-- What comes next is open in no state where nothing may come.
use Rattle.std.specs.Prelude.{◌⊎◌, ℕ}
use Rattle.pt_de_laws.specs.State.{DeState, MayFire, MayAnswer, IsOver}

-- a child may be asked to fire or for an early answer, or each has had its turn
abbrev pub SomethingComes : {T : Type 0} → DeState T → Type 0
SomethingComes s = ((i : ℕ) × (MayFire s i ⊎ MayAnswer s i)) ⊎ IsOver s

-- whatever the plan is, and whatever has come
abbrev pub AlwaysComes : Type 0 → Type 0
AlwaysComes T = (s : DeState T) → SomethingComes s
