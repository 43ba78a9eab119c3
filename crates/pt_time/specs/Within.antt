-- How far time goes, and the tag after a delay.
use Rattle.std.specs.Prelude.{ℕ, zero, suc, ◌+◌, ◌≤◌, ◌^◌}
use Rattle.pt_meaning.specs.Basics.{Tag}

-- at most 2^62 ticks, and 2^31 microsteps
pub record IsWithin (tag : Tag) : Type 0 where
  pub ticks : tag.time ≤ 2 ^ 62
  pub microsteps : tag.step ≤ 2 ^ 31

-- the tag after a delay: the next microstep after none, else so many ticks later at microstep 0
abbrev pub tag_after : Tag → ℕ → Tag
tag_after tag zero = record { time = tag.time; step = tag.step + 1 }
tag_after tag (suc delay) = record { time = tag.time + suc delay; step = 0 }

-- the tag outside a refinement, by its lag
abbrev pub tag_outside : Tag → ℕ → Tag
tag_outside tag lag = record { time = tag.time + lag; step = tag.step }
