-- Which children may give an early answer.
use Rattle.std.specs.Prelude.{Bool, false, not}
use Rattle.pt_meaning.specs.Tree as tree
use Rattle.pt_library.specs.LibraryActor as library
use Rattle.pt_node.specs.View.{Tree}

-- of library actors those that their library doesn't tell to be strict, and no composite
abbrev pub is_nonstrict : Tree → Bool
is_nonstrict (tree.Actor h a b) = not (library.is_strict b)
is_nonstrict (tree.Composite h c d kids) = false
