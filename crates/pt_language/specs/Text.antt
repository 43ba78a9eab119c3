-- Which texts read as which tree.
use Rattle.std.specs.Prelude.{ℕ, List, []}
use Rattle.pt_language.specs.Tree.{Tree}
use Rattle.pt_language.specs.declared.word.Word.{Word}
use Rattle.pt_language.specs.Words.{Splits}
use Rattle.pt_language.specs.Grammar.{Reads, expression}

-- the whole text is words, and they read as the tree
abbrev pub ReadsAs : List ℕ → Tree → Type 0
ReadsAs text t = (ws : List Word) × Splits text ws [] × Reads expression ws t
