-- The meetings made in a firing, among the definitions.
use Rattle.std.specs.Prelude.{◌+◌, ◌≤◌, length, map, vec_capacity}
use Rattle.pt_meaning.specs.Log as log
use Rattle.pt_firing.specs.Meeting.{meeting_of}
use Rattle.pt_reaction.specs.Spared.{Spared}
use Rattle.pt_rv_plan.specs.declared.meetings.Meetings.TheInside.{Inside}

abbrev pub seen_meetings : Inside → Spared log.Meeting
seen_meetings m = record { list = map meeting_of m.list.items; spare = m.promised }

-- there is room for the meetings that were promised
abbrev pub HasPromised : Inside → Type 0
HasPromised m = length m.list.items + m.promised ≤ vec_capacity m.list
