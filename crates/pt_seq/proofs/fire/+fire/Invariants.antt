use Rattle.std.proofs.Common.{◌+◌, ◌*◌, ℕ, List, Option, map}
use Rattle.pt_meaning.specs.Basics.{Tag, Streams}
use Rattle.pt_value.specs.declared.token.Token.{Token}
use Rattle.pt_records.specs.Kept.{Made}
use Rattle.pt_directors.specs.Directors.{Director}
use Rattle.pt_node.specs.Shown.{Shown, shown, shown_node, all_of}
use Rattle.pt_node.specs.View.{outline_of, outlines_of, depth, depths}
use Rattle.pt_turns.specs.Between.{Rested}
use Rattle.pt_turns.specs.OwnMeetings.{own_of}
use Rattle.pt_seq.proofs.fire.+fire.Given as goal

abbrev pub decreases-fire : goal.decreases-fire
decreases-fire l = 6 * depth (outline_of (shown_node l.node.now))

abbrev pub decreases-fire_composite : goal.decreases-fire_composite
decreases-fire_composite l = 6 * depths (outlines_of (all_of (map shown l.children.now.items))) + 5

abbrev pub decreases-go_on : goal.decreases-go_on
decreases-go_on l = 6 * depths (outlines_of (all_of (map shown l.children.now.items))) + 4

abbrev pub decreases-fire_child : goal.decreases-fire_child
decreases-fire_child l = 6 * depth (outline_of (shown_node l.child.now)) + 3

abbrev pub decreases-fire_any : goal.decreases-fire_any
decreases-fire_any l = 6 * depth (outline_of (shown_node l.child.now)) + 1

-- however the firing began, it has come so far
abbrev pub invariant-go_on-loop-number : goal.invariant-go_on-loop-number
invariant-go_on-loop-number l = (before : Director) (olds : List Shown) (tag : Tag) (X : Streams Token) (allowance : ℕ) (start : Option Made) → Rested before olds tag X allowance (own_of l.made start l.fn.meetings) l.fn.first l.fn.director (map shown l.fn.children.items) l.fn.left → Rested before olds tag X allowance (own_of l.made start l.meetings) l.rest l.director (map shown l.children.items) l.left

abbrev pub decreases-go_on-loop-number : goal.decreases-go_on-loop-number
decreases-go_on-loop-number l = l.left
