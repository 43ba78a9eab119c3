-- Which numbers are marked, by stamps: those that have the present one.
use Rattle.std.specs.Prelude.{ℕ, ◌<◌, ◌≤◌, List, Bool, map, nat_eq, length, get_or}

abbrev pub marked : ℕ → List ℕ → List Bool
marked present stamps = map (λ s. nat_eq s present) stamps

-- no stamp is past the present one, which isn't 0
abbrev pub AreStamps : ℕ → List ℕ → Type 0
AreStamps present stamps = record { some : 0 < present; past : (k : ℕ) → k < length stamps → get_or stamps k 0 ≤ present }
