use Rattle.std.proofs.Common.{map}
use Rattle.pt_node.specs.Shown.{shown}
use Rattle.pt_blocks.specs.Children.{EachTo, IsRecorded}
use Rattle.pt_blocks.proofs.EachLaws.{AreLeft}
use Rattle.pt_blocks.proofs.children.record_all.Given as goal

abbrev pub invariant-loop-i : goal.invariant-loop-i
invariant-loop-i l = EachTo (IsRecorded l.repetitions l.tag l.iterations l.fn.actors.items) l.i (map shown l.fn.children.items) (map shown l.children.items) × AreLeft l.i l.fn.actors.items l.actors.items
