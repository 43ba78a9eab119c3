-- The queue of events: the list of its entries by tag, depth and number (the book, "Discrete-Event Models"). Equal entries count as often as they were put.
use Rattle.std.specs.Prelude.{ℕ, Bool, List, map, Option, Some, None, option_map}
use Rattle.std.specs.List.{filter}
use Rattle.pt_meaning.specs.Tag.{Tag, tag_le, least}
use Rattle.pt_events.specs.Placed.{placed, without, least_of}
use Rattle.pt_events.specs.Entries.{Entry, by_tag, by_depth}

-- the queue with one entry more
abbrev pub put : Entry → List Entry → List Entry
put e queue = placed by_tag e queue

-- the least tag of the entries, if there are any
abbrev pub first : List Entry → Option Tag
first queue = least (map (λ e. Some e.tag) queue)

-- the entry is at or before the tag
abbrev pub is_due : Tag → Entry → Bool
is_due tag e = tag_le e.tag tag

-- the entries at or before the tag
abbrev pub due : Tag → List Entry → List Entry
due tag queue = filter (is_due tag) queue

-- of the entries at or before the tag the one of least depth, then least number, then least tag
abbrev pub next_due : Tag → List Entry → Option Entry
next_due tag queue = least_of by_depth (due tag queue)

-- the queue with that entry less, and with no other
abbrev pub less : Option Entry → List Entry → List Entry
less None queue = queue
less (Some e) queue = without by_tag e queue

-- the actor of the entry that is taken at the tag
abbrev pub taken : Tag → List Entry → Option ℕ
taken tag queue = option_map (λ e. e.actor) (next_due tag queue)

-- the entries that are left then
abbrev pub left : Tag → List Entry → List Entry
left tag queue = less (next_due tag queue) queue
