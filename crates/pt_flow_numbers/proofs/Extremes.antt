-- The best of some numbers, one number after another.
use Rattle.std.proofs.Common.{◌≡◌, List, Option, Some, None, ℤ, refl}
use Rattle.pt_flow_numbers.specs.declared.extreme.Side.{Side}
use Rattle.pt_flow_base.specs.Row.{with_number}
use Rattle.pt_flow_numbers.specs.Extreme.{better, best_of}

pub best-next : (side : Side) (best number : Option ℤ) (ns : List ℤ) → best_of side (better side best number) ns ≡ best_of side best (with_number number ns)
unfolding best_of
best-next side best None ns = refl
best-next side best (Some n) ns = refl
