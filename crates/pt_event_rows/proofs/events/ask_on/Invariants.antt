use Rattle.std.proofs.Common.{ℕ, List, map}
use Rattle.pt_meaning.specs.Basics.{Tag, Streams}
use Rattle.pt_value.specs.declared.token.Token.{Token}
use Rattle.pt_directors.specs.Directors.{Director, director_calls}
use Rattle.pt_node.specs.Acts.{acts}
use Rattle.pt_node.specs.Shown.{Shown, shown}
use Rattle.pt_directors.specs.Directors.{of_de}
use Rattle.pt_turns.specs.Between.{At}
use Rattle.pt_turns.specs.OwnMeetings.{OwnMeetings}
use Rattle.pt_event_rows.proofs.events.ask_on.Given as goal

-- however the firing began, it has come so far
abbrev pub invariant-loop-number : goal.invariant-loop-number
invariant-loop-number l = (before : Director) (olds : List Shown) (tag : Tag) (X : Streams Token) (allowance : ℕ) (own : OwnMeetings) (left : ℕ) → At acts before olds tag X allowance own (of_de l.fn.core) (map shown l.children.items) left → At acts before olds tag X allowance own (of_de l.core) (map shown l.children.items) left

abbrev pub decreases-loop-number : goal.decreases-loop-number
decreases-loop-number l = director_calls.waits (of_de l.core)
