-- The wakes of some children, by number: which are due at a tag.
use Rattle.std.specs.Prelude.{◌≡◌, ℕ, ◌<◌, List, true, false, length, get_or, Option, None}
use Rattle.pt_meaning.specs.Tag.{Tag, is_due}

-- the wake of a child, none past the last
abbrev pub wake_of : List (Option Tag) → ℕ → Option Tag
wake_of wakes i = get_or wakes i None

-- no wake is at or before the tag
abbrev pub NoneIsDue : Tag → List (Option Tag) → Type 0
NoneIsDue tag wakes = (i : ℕ) → i < length wakes → is_due tag (wake_of wakes i) ≡ false

-- a child whose wake is at or before the tag
abbrev pub IsDueAt : Tag → List (Option Tag) → ℕ → Type 0
IsDueAt tag wakes i = (i < length wakes) × (is_due tag (wake_of wakes i) ≡ true)
