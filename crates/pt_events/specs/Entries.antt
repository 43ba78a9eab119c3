-- An entry of the queue of events, and the two orders of entries (the book, "Discrete-Event Models").
use Rattle.std.specs.Prelude.{ℕ, Bool, List, [], ◌∷◌}
use Rattle.std.specs.Ordering.{nat_cmp, is_le}
use Rattle.std.specs.Cmp.Lexicographic.{slice_cmp}
use Rattle.pt_meaning.specs.Tag.{Tag}

-- at the tag the actor of this number, which has this depth, has an event
pub record Entry : Type 0 where
  pub tag : Tag
  pub depth : ℕ
  pub actor : ℕ

-- what counts in the order of the queue: the tag, then the depth, then the number
abbrev pub tag_key : Entry → List ℕ
tag_key e = e.tag.time ∷ e.tag.step ∷ e.depth ∷ e.actor ∷ []

-- what counts among entries that are due: the depth, then the number, then the tag
abbrev pub depth_key : Entry → List ℕ
depth_key e = e.depth ∷ e.actor ∷ e.tag.time ∷ e.tag.step ∷ []

-- by tag, depth and number the first is not after the second
abbrev pub by_tag : Entry → Entry → Bool
by_tag a b = is_le (slice_cmp nat_cmp (tag_key a) (tag_key b))

-- by depth, number and tag the first is not after the second
abbrev pub by_depth : Entry → Entry → Bool
by_depth a b = is_le (slice_cmp nat_cmp (depth_key a) (depth_key b))
