-- Which trees texts read as.
use Rattle.std.specs.Prelude.{ℕ, List}
use Rattle.pt_language.specs.Tree.{Tree}
use Rattle.pt_language.specs.Text.{ReadsAs}

-- some text reads as the tree
abbrev pub IsReadable : Tree → Type 0
IsReadable t = (text : List ℕ) × ReadsAs text t
