-- The parts of where a Modal is that a transition changes.
use Rattle.std.specs.Prelude.{ℕ, List}
use Rattle.pt_meaning.specs.Modal.{Modes, Stay}

abbrev pub with_stays : {T : Type 0} → List Stay → Modes T → Modes T
with_stays stays m = record { mode = m.mode; values = m.values; stays = stays }

abbrev pub in_mode : {T : Type 0} → (mode : ℕ) → List T → Modes T → Modes T
in_mode mode values m = record { mode = mode; values = values; stays = m.stays }
