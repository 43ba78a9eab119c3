use Rattle.std.proofs.Common.{◌≡◌, take, map}
use Rattle.pt_meaning.specs.NodeFacts.{whole_of}
use Rattle.pt_library.specs.LibraryActor.{rows}
use Rattle.pt_node.specs.Shown.{shown}
use Rattle.pt_trees.specs.Composite.{trees_of}
use Rattle.pt_de_inside.proofs.children.whole_of.Given as goal

abbrev pub invariant-loop-child : goal.invariant-loop-child
invariant-loop-child l = l.flags.items ≡ map (whole_of rows) (trees_of (map shown (take l.child-index l.children)))
