-- The children that are due as wakes, at their depths: so the least wake is the least depth of those that are due.
use Rattle.std.specs.Prelude.{◌≡◌, ℕ, List, [], ◌∷◌, Bool, true, false, length, Option, Some, None}
use Rattle.pt_meaning.specs.Tag.{Tag}

abbrev pub key_of : Bool → ℕ → Option Tag
key_of true depth = Some (record { time = depth; step = 0 })
key_of false depth = None

abbrev pub keys_of : List ℕ → List Bool → List (Option Tag)
keys_of [] due = []
keys_of (d ∷ ds) [] = []
keys_of (d ∷ ds) (b ∷ bs) = key_of b d ∷ keys_of ds bs

-- each child has a depth, and its wake is by whether it is due
pub record AreKeys (depths : List ℕ) (due : List Bool) (keys : List (Option Tag)) : Type 0 where
  pub each : length depths ≡ length due
  pub keyed : keys ≡ keys_of depths due
