use Rattle.std.proofs.Common.{◌≡◌, ◌++◌, length, List, ℕ}
use Rattle.pt_language.specs.declared.word.Word.{Word}
use Rattle.pt_language.specs.Words.{Splits, word_at}
use Rattle.pt_expr_text.proofs.Splitting.{SplitsFrom}
use Rattle.std.specs.Str.{IsUtf8}
use Rattle.pt_expr_text.proofs.words.split.Given as goal

abbrev pub invariant-loop-words : goal.invariant-loop-words
invariant-loop-words l = ((ws : List Word) (left : List ℕ) → SplitsFrom l.rest ws left → Splits l.fn.text (l.words.items ++ ws) left) × IsUtf8 l.rest

abbrev pub decreases-loop-words : goal.decreases-loop-words
decreases-loop-words l = length l.rest
