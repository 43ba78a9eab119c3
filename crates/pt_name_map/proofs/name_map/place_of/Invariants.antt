use Rattle.std.proofs.Common.{◌≡◌, ◌+◌, ℕ, drop}
use Rattle.pt_name_map.specs.NameMap.{listed, IsPlace}
use Rattle.pt_name_map.proofs.name_map.place_of.Given as goal

abbrev pub invariant-loop-place : goal.invariant-loop-place
invariant-loop-place g l =
    (listed l.entries l.name ≡ listed (drop l.place l.entries) l.name) ×
    ((k : ℕ) → IsPlace (drop l.place l.entries) l.name k → IsPlace l.entries l.name (l.place + k))
