use Rattle.std.proofs.Common.{◌≡◌, ◌≤◌, ◌+◌, length, false}
use Rattle.pt_language.specs.Deep.{counted}
use Rattle.pt_expr_text.proofs.deep.operator_count.Given as goal

abbrev pub invariant-loop-word : goal.invariant-loop-word
invariant-loop-word l = (l.count + counted l.behind_operand l.rest ≡ counted false l.fn.words) × (l.count + length l.rest ≤ length l.fn.words)

abbrev pub decreases-loop-word : goal.decreases-loop-word
decreases-loop-word l = length l.rest
