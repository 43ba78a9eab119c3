use Rattle.std.proofs.Common.{map}
use Rattle.pt_node.specs.Shown.{shown}
use Rattle.pt_blocks.specs.Children.{AreOfTo}
use Rattle.pt_blocks.proofs.children.copies.Given as goal

abbrev pub invariant-loop-child : goal.invariant-loop-child
invariant-loop-child l = AreOfTo l.child-index (map shown l.children) l.actors.items
