-- The wakes of refinements, by number.
use Rattle.std.proofs.Common.{◌≡◌, ℕ, zero, suc, List, [], ◌∷◌, get_or, Option, None, refl}
use Rattle.pt_meaning.specs.Tag.{Tag}
use Rattle.pt_meaning.specs.Modal.{wake_at}

pub wake-or : (wakes : List (Option Tag)) (i : ℕ) → get_or wakes i None ≡ wake_at wakes i
wake-or [] i = refl
wake-or (w ∷ wakes) zero = refl
wake-or (w ∷ wakes) (suc i) = wake-or wakes i
