use Rattle.std.proofs.Common.{◌≡◌, ◌≤◌, drop, max, length}
use Rattle.pt_language.specs.Deep.{most_open}
use Rattle.pt_expr_text.proofs.deep.most_open.Given as goal

abbrev pub invariant-loop-word : goal.invariant-loop-word
invariant-loop-word l = (max l.most (most_open l.now (drop l.word-index l.words)) ≡ most_open 0 l.words) × (l.now ≤ l.word-index) × (l.now ≤ l.most)
