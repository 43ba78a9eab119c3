use Rattle.std.proofs.Common.{ℕ, ◌≤◌, List, Option, map}
use Rattle.pt_meaning.specs.Basics.{Tag, Streams}
use Rattle.pt_value.specs.declared.token.Token.{Token}
use Rattle.pt_records.specs.Kept.{Made}
use Rattle.pt_directors.specs.Directors.{Director, of_rendezvous}
use Rattle.pt_node.specs.Acts.{acts}
use Rattle.pt_node.specs.Shown.{Shown, shown}
use Rattle.pt_turns.specs.Between.{At}
use Rattle.pt_turns.specs.OwnMeetings.{own_of}
use Rattle.pt_number_rows.proofs.meetings.fire_meetings.Given as goal

-- however the firing began, it has come so far
abbrev pub invariant-loop-left : goal.invariant-loop-left
invariant-loop-left l = record {
  lowered : l.left ≤ l.fn.left;
  so_far : (before : Director) (olds : List Shown) (tag : Tag) (X : Streams Token) (allowance : ℕ) (start : Option Made) → At acts before olds tag X allowance (own_of l.made start l.fn.meetings) (of_rendezvous l.fn.core) (map shown l.fn.children.items) l.fn.left → At acts before olds tag X allowance (own_of l.made start l.meetings) (of_rendezvous l.core) (map shown l.children.items) l.left;
}

abbrev pub decreases-loop-left : goal.decreases-loop-left
decreases-loop-left l = l.left
