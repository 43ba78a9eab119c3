use Rattle.std.proofs.Common.{◌≡◌, take, map}
use Rattle.pt_meaning.specs.NodeFacts.{need_of}
use Rattle.pt_library.specs.LibraryActor.{rows}
use Rattle.pt_node.specs.Shown.{shown}
use Rattle.pt_puts.specs.Need.{need_in}
use Rattle.pt_trees.specs.Composite.{trees_of}
use Rattle.pt_rv_inside.proofs.needs.kept_needs_of.Given as goal

abbrev pub invariant-loop-child : goal.invariant-loop-child
invariant-loop-child l = map need_in l.needs.items ≡ map (need_of rows) (trees_of (map shown (take l.child-index l.children)))
