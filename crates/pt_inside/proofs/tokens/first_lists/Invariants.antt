use Rattle.std.proofs.Common.{◌≡◌, take, map}
use Rattle.pt_meaning.specs.Start.{first_held}
use Rattle.pt_core.specs.Source.{source_of}
use Rattle.pt_library.specs.LibraryActor.{rows}
use Rattle.pt_node.specs.Shown.{shown}
use Rattle.pt_trees.specs.Composite.{trees_of}
use Rattle.pt_inside.proofs.tokens.first_lists.Given as goal

abbrev pub invariant-loop-source : goal.invariant-loop-source
invariant-loop-source l = l.lists.items ≡ first_held rows (trees_of (map shown l.children)) (map source_of (take l.source-index l.sources))
