use Rattle.std.proofs.Common.{take, map}
use Rattle.pt_node.specs.Shown.{shown}
use Rattle.pt_trees.specs.Composite.{trees_of}
use Rattle.pt_trees.specs.Modal.{AreOpaque}
use Rattle.pt_modal_composite.proofs.modal.are_opaque.Given as goal

abbrev pub invariant-loop-child : goal.invariant-loop-child
invariant-loop-child l = AreOpaque (trees_of (map shown (take l.child-index l.children)))
