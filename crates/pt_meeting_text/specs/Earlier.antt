-- How many lines of a firing there are so far.
use Rattle.std.specs.Prelude.{ℕ, ◌==◌, if◌then◌else◌}
use Rattle.pt_trace.specs.MeetingText.{met}
use Rattle.pt_meeting_text.specs.declared.earlier.Earlier.{Earlier}

-- that of the last line has its count at hand, and the others have theirs in the table
abbrev pub counted : Earlier → ℕ → ℕ
counted c q = if q == c.firing then c.count else met c.others q
