use Rattle.std.proofs.Common.{ℕ, List}
use Rattle.pt_meaning.specs.Basics.{Tag, Streams}
use Rattle.pt_value.specs.declared.token.Token.{Token}
use Rattle.pt_directors.specs.Directors.{Director, director_calls}
use Rattle.pt_node.specs.Acts.{acts}
use Rattle.pt_node.specs.Shown.{Shown}
use Rattle.pt_turns.specs.Between.{At}
use Rattle.pt_turns.specs.OwnMeetings.{OwnMeetings}
use Rattle.pt_number_rows.proofs.numbers.asked.Given as goal

-- however the firing began, it has come so far
abbrev pub invariant-loop-next : goal.invariant-loop-next
invariant-loop-next g l = (before : Director) (olds : List Shown) (tag : Tag) (X : Streams Token) (allowance : ℕ) (own : OwnMeetings) (now : List Shown) (left : ℕ) → At acts before olds tag X allowance own (g.C.NumberCore.director l.fn.core) now left → At acts before olds tag X allowance own (g.C.NumberCore.director l.core) now left

abbrev pub decreases-loop-next : goal.decreases-loop-next
decreases-loop-next g l = director_calls.waits (g.C.NumberCore.director l.core)
