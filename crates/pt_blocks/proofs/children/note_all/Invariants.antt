use Rattle.std.proofs.Common.{map}
use Rattle.pt_node.specs.Shown.{shown}
use Rattle.pt_blocks.specs.Children.{AllNotedTo}
use Rattle.pt_blocks.proofs.children.note_all.Given as goal

abbrev pub invariant-loop-i : goal.invariant-loop-i
invariant-loop-i l = AllNotedTo l.i l.repetitions l.given l.tag l.iterations l.left (map shown l.fn.children.items) (map shown l.children.items) l.after
