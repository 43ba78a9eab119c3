-- How many entities a document has, and how deep they nest.
use Rattle.std.specs.Prelude.{ℕ, ◌+◌, ◌-◌, ◌&&◌, ◌||◌, ◌==◌, nat_le, max, codes, Bool, Option, Some, None, if◌then◌else◌, option_and_then}
use Rattle.std.specs.Ordering.{nat_cmp, match_ordering}
use Rattle.std.specs.Cmp.Lexicographic.{slice_cmp}
use Rattle.serde_json.specs.Data.{Data, array, object, Items, no_items, item, Members, no_members, member}

-- the entities of a list, each with those within it
pub data Nest : Type 0 where
  no_nest : Nest
  one_nest : (within rest : Nest) → Nest

-- how many entities these are
abbrev pub count : Nest → ℕ
count no_nest = 0
count (one_nest within rest) = (1 + count within) + count rest

-- how many levels of entities there are
abbrev pub levels : Nest → ℕ
levels no_nest = 0
levels (one_nest within rest) = max (1 + levels within) (levels rest)

unfoldable mutual
  -- the entities within an entity
  pub nest_in : Data → Nest
  nest_in (object ms) = nest_under ms
  nest_in _ = no_nest

  pub nest_under : Members → Nest
  nest_under no_members = no_nest
  nest_under (member k d ms) = match_ordering (slice_cmp nat_cmp (codes "entities") k) (nest_under ms) (nest_at d) (nest_under ms)

  pub nest_at : Data → Nest
  nest_at (array ds) = nest_items ds
  nest_at _ = no_nest

  pub nest_items : Items → Nest
  nest_items no_items = no_nest
  nest_items (item d ds) = one_nest (nest_in d) (nest_items ds)

-- the entities at a field
abbrev pub nest_field : Option Data → Nest
nest_field None = no_nest
nest_field (Some d) = nest_at d

abbrev pub most_entities : ℕ
most_entities = 10000

abbrev pub most_levels : ℕ
most_levels = 16

-- the top and the entities within it are few enough, and don't nest too deep
abbrev pub is_within : Nest → Bool
is_within inner = nat_le (1 + count inner) most_entities && nat_le (1 + levels inner) most_levels

-- how many entities more there may be behind these, where there may be so many entities and levels
abbrev pub room_behind : ℕ → ℕ → Nest → Option ℕ
room_behind depth room no_nest = Some room
room_behind depth room (one_nest within rest) = if (room == 0) || (depth == 0) then None else option_and_then (λ left. room_behind depth left rest) (room_behind (depth - 1) (room - 1) within)
