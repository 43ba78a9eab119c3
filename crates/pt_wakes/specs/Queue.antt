-- A queue of children that are due as keys, of which those in front aren't among the others.
use Rattle.std.specs.Prelude.{◌≡◌, ℕ, ◌<◌, Bool, true, false, List, [], ◌∷◌, length, set, Option, Some, None, nat_lt}
use Rattle.pt_meaning.specs.Tag.{Tag, earlier, least}
use Rattle.pt_wakes.specs.Wakes.{wake_of}
use Rattle.pt_wakes.specs.Keys.{key_of}

-- the keys of all, where those in front are at this depth
abbrev pub with_front : List ℕ → (depth : ℕ) → List (Option Tag) → List (Option Tag)
with_front [] depth keys = keys
with_front (i ∷ is) depth keys = with_front is depth (set keys i (key_of true depth))

-- each in front is one of the children and not among the others, nor twice in front
abbrev pub IsFront : (depth : ℕ) → List (Option Tag) → List ℕ → Type 0
IsFront depth keys [] = Unit {0}
IsFront depth keys (i ∷ is) = (i < length keys) × (wake_of keys i ≡ None) × IsFront depth (set keys i (key_of true depth)) is

-- and where there is one in front, no child is less deep
pub record IsQueue (ahead : List ℕ) (depth : ℕ) (keys : List (Option Tag)) : Type 0 where
  pub front : IsFront depth keys ahead
  pub first : 0 < length ahead → earlier (key_of true depth) (least (with_front ahead depth keys)) ≡ key_of true depth

-- child i has the least key
pub record IsFirstKey (keys : List (Option Tag)) (i : ℕ) : Type 0 where
  pub there : i < length keys
  pub key : Tag
  pub has : wake_of keys i ≡ Some key
  pub first : least keys ≡ Some key

-- whether a key is of a lesser depth
abbrev pub is_before : (depth : ℕ) → Option Tag → Bool
is_before depth None = false
is_before depth (Some key) = nat_lt key.time depth
