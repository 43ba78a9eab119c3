-- What a relation joins, directly or by way of others.
use Rattle.std.specs.Prelude.{◌≡◌, ℕ, ◌<◌, ◌↔◌, List, length, slice_index}
use Rattle.std.specs.List.{All, Contains}

-- a path of steps, each taken either way, leads from one thing to another
pub data Joined (Step : ℕ → ℕ → Type 0) : ℕ → ℕ → Type 0 where
  here : (a : ℕ) → Joined Step a a
  along : (a b c : ℕ) → Step a b → Joined Step b c → Joined Step a c
  against : (a b c : ℕ) → Step b a → Joined Step b c → Joined Step a c

-- one of these pairs is this
abbrev pub Pairs : List (ℕ × ℕ) → ℕ → ℕ → Type 0
Pairs links a b = Contains links (a, b)

-- of things that are numbered, each has the number of its group: two have one group exactly where the links join them
pub record IsGrouping (count : ℕ) (links : List (ℕ × ℕ)) (group : List ℕ) : Type 0 where
  pub each : length group ≡ count
  pub within : All (λ c. c < count) group
  pub joined : (a b : ℕ) → a < count → b < count → (slice_index group a ≡ slice_index group b) ↔ Joined (Pairs links) a b
