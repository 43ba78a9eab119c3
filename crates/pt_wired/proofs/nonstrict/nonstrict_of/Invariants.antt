use Rattle.std.proofs.Common.{◌≡◌, take, map}
use Rattle.pt_node.specs.Shown.{shown}
use Rattle.pt_trees.specs.Composite.{trees_of}
use Rattle.pt_wired.specs.Nonstrict.{is_nonstrict}
use Rattle.pt_wired.proofs.nonstrict.nonstrict_of.Given as goal

abbrev pub invariant-loop-child : goal.invariant-loop-child
invariant-loop-child l = l.flags.items ≡ map is_nonstrict (trees_of (map shown (take l.child-index l.children)))
