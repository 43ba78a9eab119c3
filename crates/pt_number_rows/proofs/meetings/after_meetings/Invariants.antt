use Rattle.std.proofs.Common.{ℕ, List, Option}
use Rattle.pt_meaning.specs.Basics.{Tag, Streams}
use Rattle.pt_value.specs.declared.token.Token.{Token}
use Rattle.pt_records.specs.Kept.{Made}
use Rattle.pt_directors.specs.Directors.{Director, director_calls, of_rendezvous}
use Rattle.pt_node.specs.Acts.{acts}
use Rattle.pt_node.specs.Shown.{Shown}
use Rattle.pt_turns.specs.Between.{At}
use Rattle.pt_turns.specs.OwnMeetings.{own_of}
use Rattle.pt_number_rows.proofs.meetings.after_meetings.Given as goal

-- however the firing began, it has come so far
abbrev pub invariant-loop-meeting : goal.invariant-loop-meeting
invariant-loop-meeting l = (before : Director) (olds : List Shown) (tag : Tag) (X : Streams Token) (allowance : ℕ) (start : Option Made) (now : List Shown) (left : ℕ) → At acts before olds tag X allowance (own_of l.made start l.fn.meetings) (of_rendezvous l.fn.core) now left → At acts before olds tag X allowance (own_of l.made start l.meetings) (of_rendezvous l.core) now left

abbrev pub decreases-loop-meeting : goal.decreases-loop-meeting
decreases-loop-meeting l = director_calls.waits (of_rendezvous l.core)
