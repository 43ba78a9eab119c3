use Rattle.std.proofs.Common.{ℕ, ◌≤◌, List, map}
use Rattle.pt_meaning.specs.Basics.{Tag, Streams}
use Rattle.pt_value.specs.declared.token.Token.{Token}
use Rattle.pt_directors.specs.Directors.{Director}
use Rattle.pt_node.specs.Acts.{acts}
use Rattle.pt_node.specs.Shown.{Shown, shown}
use Rattle.pt_turns.specs.Between.{At}
use Rattle.pt_turns.specs.OwnMeetings.{OwnMeetings}
use Rattle.pt_number_rows.proofs.numbers.fire_numbers.Given as goal

-- however the firing began, it has come so far
abbrev pub invariant-loop-number : goal.invariant-loop-number
invariant-loop-number g l = record {
  lowered : l.left ≤ l.fn.left;
  so_far : (before : Director) (olds : List Shown) (tag : Tag) (X : Streams Token) (allowance : ℕ) (own : OwnMeetings) → At acts before olds tag X allowance own (g.C.NumberCore.director l.fn.core) (map shown l.fn.children.items) l.fn.left → At acts before olds tag X allowance own (g.C.NumberCore.director l.core) (map shown l.children.items) l.left;
}

abbrev pub decreases-loop-number : goal.decreases-loop-number
decreases-loop-number g l = l.left
