use Rattle.std.proofs.Common.{ℕ, ◌≤◌, List, map}
use Rattle.pt_meaning.specs.Basics.{Tag, Streams}
use Rattle.pt_value.specs.declared.token.Token.{Token}
use Rattle.pt_directors.specs.Directors.{Director, of_sdf}
use Rattle.pt_node.specs.Acts.{acts}
use Rattle.pt_node.specs.Shown.{Shown, shown}
use Rattle.pt_turns.specs.Between.{At}
use Rattle.pt_turns.specs.OwnMeetings.{OwnMeetings}
use Rattle.pt_rows.proofs.stretches.fire_stretches.Given as goal

-- however the firing began, it has come so far
abbrev pub invariant-loop-number : goal.invariant-loop-number
invariant-loop-number l = record {
  lowered : l.left ≤ l.fn.left;
  so_far : (before : Director) (olds : List Shown) (tag : Tag) (X : Streams Token) (allowance : ℕ) (own : OwnMeetings) → At acts before olds tag X allowance own (of_sdf l.fn.core) (map shown l.fn.children.items) l.fn.left → At acts before olds tag X allowance own (of_sdf l.core) (map shown l.children.items) l.left;
}

abbrev pub decreases-loop-number : goal.decreases-loop-number
decreases-loop-number l = l.left
