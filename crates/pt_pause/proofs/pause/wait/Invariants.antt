use Rattle.std.proofs.Common.{ℕ, List, Option, map}
use Rattle.pt_meaning.specs.Basics.{Tag, Streams}
use Rattle.pt_value.specs.declared.token.Token.{Token}
use Rattle.pt_records.specs.Kept.{Made}
use Rattle.pt_directors.specs.Directors.{Director, director_calls}
use Rattle.pt_node.specs.Acts.{acts}
use Rattle.pt_node.specs.Shown.{Shown, shown}
use Rattle.pt_turns.specs.Between.{At}
use Rattle.pt_turns.specs.OwnMeetings.{own_of}
use Rattle.pt_pause.proofs.pause.wait.Given as goal

-- however the firing began, it has come so far
abbrev pub invariant-loop-pause : goal.invariant-loop-pause
invariant-loop-pause l = (before : Director) (olds : List Shown) (tag : Tag) (X : Streams Token) (allowance : ℕ) (start : Option Made) → At acts before olds tag X allowance (own_of l.made start l.fn.meetings) l.fn.director (map shown l.fn.children.items) l.left → At acts before olds tag X allowance (own_of l.made start l.meetings) l.director (map shown l.children.items) l.left

abbrev pub decreases-loop-pause : goal.decreases-loop-pause
decreases-loop-pause l = director_calls.waits l.director
