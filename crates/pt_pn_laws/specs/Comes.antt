-- What comes next is open in no state where nothing may come.
use Rattle.std.specs.Prelude.{◌⊎◌, ℕ}
use Rattle.pt_pn_laws.specs.State.{PnState, MayGet, MayPut, MayFire, MayGrow, IsFull, IsOver}
use Rattle.pt_pn_laws.specs.Lawful.{IsLawful, IsSized, AllCount, AllGather}

-- a process may get, put or fire, or a channel may grow, or the network is full, or the firing is over
abbrev pub SomethingComes : {T : Type 0} → PnState T → Type 0
SomethingComes s = ((i : ℕ) × (MayGet s i ⊎ (MayPut s i ⊎ MayFire s i))) ⊎ (MayGrow s ⊎ (IsFull s ⊎ IsOver s))

-- wherever processes gather as they need
abbrev pub AlwaysComes : Type 0 → Type 0
AlwaysComes T = (s : PnState T) → IsLawful s.network → IsSized s → AllCount s → AllGather s → SomethingComes s
