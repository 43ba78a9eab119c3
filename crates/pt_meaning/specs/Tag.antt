-- Superdense time: a tag is a time and a microstep (the book, "Heterogeneous Modeling" and "Discrete-Event Models").
-- Whole ticks, microsteps from 0, both limits, and local times by a lag are by the profile.
use Rattle.std.specs.Prelude.{ℕ, zero, suc, ◌+◌, ◌-◌, List, [], ◌∷◌, Bool, false, ◌&&◌, ◌||◌, nat_eq, nat_lt, nat_le, Option, Some, None, if◌then◌else◌}

-- a moment: its time, and its microstep at that time
pub record Tag : Type 0 where
  pub time : ℕ
  pub step : ℕ

-- where time begins
abbrev pub origin : Tag
origin = record { time = 0; step = 0 }

-- the order of superdense time: by time, then by microstep
abbrev pub tag_le : Tag → Tag → Bool
tag_le a b = nat_lt a.time b.time || (nat_eq a.time b.time && nat_le a.step b.step)

-- a wake is due at a tag where it is at or before it
abbrev pub is_due : Tag → Option Tag → Bool
is_due tag None = false
is_due tag (Some wake) = tag_le wake tag

-- the lesser of two wakes, of which each may be none
abbrev pub earlier : Option Tag → Option Tag → Option Tag
earlier None b = b
earlier (Some a) None = Some a
earlier (Some a) (Some b) = if tag_le a b then Some a else Some b

-- the least of the wakes, if there is any
abbrev pub least : List (Option Tag) → Option Tag
least [] = None
least (w ∷ ws) = earlier w (least ws)

-- the greatest time, 2^62 ticks, and the greatest microstep, 2^31, by the profile
abbrev pub greatest_time : ℕ
greatest_time = 4611686018427387904

-- the greatest microstep, 2^31, by the profile
abbrev pub greatest_step : ℕ
greatest_step = 2147483648

-- the tag, and none where it passes a limit
abbrev pub within_limits : Tag → Option Tag
within_limits tag = if nat_le tag.time greatest_time && nat_le tag.step greatest_step then Some tag else None

-- the tag after a delay: the next microstep where the delay is 0, else microstep 0 at the later time, by the profile
abbrev pub tag_after : Tag → (delay : ℕ) → Tag
tag_after tag zero = record { time = tag.time; step = suc tag.step }
tag_after tag (suc d) = record { time = tag.time + suc d; step = 0 }

-- the tag one microstep later, none past the limit
abbrev pub one_later : Tag → Option Tag
one_later tag = within_limits (tag_after tag 0)

-- the local tag of a refinement that lags behind, and the outer tag of a local one, none past a limit
abbrev pub local : Tag → (lag : ℕ) → Tag
local tag lag = record { time = tag.time - lag; step = tag.step }

-- the outer tag of a local one, none past a limit
abbrev pub outer : Tag → (lag : ℕ) → Option Tag
outer tag lag = within_limits (record { time = tag.time + lag; step = tag.step })
