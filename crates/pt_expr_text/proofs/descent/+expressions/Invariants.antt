use Rattle.std.proofs.Common.{◌≡◌, map, ◌+◌, ◌*◌, ◌-◌, ◌^◌, length}
use Rattle.pt_language.specs.Expr.{tree_of, entry_of}
use Rattle.pt_language.specs.Level.{rank}
use Rattle.pt_language.specs.Descent.{expression, operand_at, repeated, next_operand, next_suffix, listed, named}
use Rattle.pt_language.proofs.Turns.{with_front}
use Rattle.pt_expr_text.proofs.descent.+expressions.Given as goal

abbrev pub decreases-expression : goal.decreases-expression
decreases-expression l = l.depth * 2 ^ 70

abbrev pub decreases-choice : goal.decreases-choice
decreases-choice l = l.depth * 2 ^ 70 + 2 ^ 67

abbrev pub decreases-minus : goal.decreases-minus
decreases-minus l = l.depth * 2 ^ 70 + 101 + 2 * length l.words.now

abbrev pub decreases-braces::list_at : goal.decreases-braces::list_at
decreases-braces::list_at l = l.depth * 2 ^ 70 + 18

abbrev pub decreases-braces::record_at : goal.decreases-braces::record_at
decreases-braces::record_at l = l.depth * 2 ^ 70 + 18

abbrev pub decreases-operators : goal.decreases-operators
decreases-operators l = l.depth * 2 ^ 70 + 2 ^ 66 + 8 * (8 - rank l.level) + 6

abbrev pub decreases-joined : goal.decreases-joined
decreases-joined l = l.depth * 2 ^ 70 + 2 ^ 66 + 8 * (8 - rank l.level) + 5

abbrev pub decreases-compared : goal.decreases-compared
decreases-compared l = l.depth * 2 ^ 70 + 2 ^ 66 + 29

abbrev pub decreases-second : goal.decreases-second
decreases-second l = l.depth * 2 ^ 70 + 2 ^ 66 + 8 * (8 - rank l.level) + 4

abbrev pub decreases-operand : goal.decreases-operand
decreases-operand l = l.depth * 2 ^ 70 + 2 ^ 66 + 8 * (8 - rank l.level) + 3

abbrev pub decreases-unary : goal.decreases-unary
decreases-unary l = l.depth * 2 ^ 70 + 100 + 2 * length l.words.now

abbrev pub decreases-postfix : goal.decreases-postfix
decreases-postfix l = l.depth * 2 ^ 70 + 50

abbrev pub decreases-suffixes : goal.decreases-suffixes
decreases-suffixes l = l.depth * 2 ^ 70 + 40

abbrev pub decreases-suffix : goal.decreases-suffix
decreases-suffix l = l.depth * 2 ^ 70 + 30

abbrev pub decreases-primary : goal.decreases-primary
decreases-primary l = l.depth * 2 ^ 70 + 45

abbrev pub decreases-primary_symbol : goal.decreases-primary_symbol
decreases-primary_symbol l = l.depth * 2 ^ 70 + 35

abbrev pub decreases-one_operand : goal.decreases-one_operand
decreases-one_operand l = l.depth * 2 ^ 70 + 20

abbrev pub decreases-two_operands : goal.decreases-two_operands
decreases-two_operands l = l.depth * 2 ^ 70 + 20

abbrev pub decreases-braces::in_braces : goal.decreases-braces::in_braces
decreases-braces::in_braces l = l.depth * 2 ^ 70 + 20

abbrev pub decreases-braces::parts : goal.decreases-braces::parts
decreases-braces::parts l = l.depth * 2 ^ 70 + 15

abbrev pub decreases-braces::fields : goal.decreases-braces::fields
decreases-braces::fields l = l.depth * 2 ^ 70 + 15

abbrev pub decreases-braces::named : goal.decreases-braces::named
decreases-braces::named l = l.depth * 2 ^ 70 + 10

abbrev pub decreases-branches : goal.decreases-branches
decreases-branches l = l.depth * 2 ^ 70 + 12

abbrev pub decreases-other_branch : goal.decreases-other_branch
decreases-other_branch l = l.depth * 2 ^ 70 + 8

abbrev pub decreases-called : goal.decreases-called
decreases-called l = l.depth * 2 ^ 70 + 15

abbrev pub decreases-enclosed : goal.decreases-enclosed
decreases-enclosed l = l.depth * 2 ^ 70 + 5

abbrev pub decreases-absolute : goal.decreases-absolute
decreases-absolute l = l.depth * 2 ^ 70 + 25

abbrev pub decreases-greater : goal.decreases-greater
decreases-greater l = l.depth * 2 ^ 70 + 25

abbrev pub decreases-lesser : goal.decreases-lesser
decreases-lesser l = l.depth * 2 ^ 70 + 25

abbrev pub decreases-last_operand : goal.decreases-last_operand
decreases-last_operand l = l.depth * 2 ^ 70 + 10

abbrev pub invariant-joined-joins : goal.invariant-joined-joins
invariant-joined-joins l = repeated (next_operand l.level (operand_at l.level (expression l.depth))) (length l.fn.words - l._turn) (tree_of l.left) l.rest
    ≡ repeated (next_operand l.level (operand_at l.level (expression l.depth))) (length l.fn.words) (tree_of l.fn.first) l.fn.words

abbrev pub invariant-suffixes-follows : goal.invariant-suffixes-follows
invariant-suffixes-follows l = repeated (next_suffix (expression l.depth)) (length l.fn.words - l._turn) (tree_of l.base) l.rest
    ≡ repeated (next_suffix (expression l.depth)) (length l.fn.words) (tree_of l.fn.first) l.fn.words

abbrev pub invariant-braces::parts-lists : goal.invariant-braces::parts-lists
invariant-braces::parts-lists l = with_front (map tree_of l.parts.items) (listed (expression l.depth) (length l.fn.words - l._turn) l.rest)
    ≡ listed (expression l.depth) (length l.fn.words) l.fn.words

abbrev pub invariant-braces::fields-names : goal.invariant-braces::fields-names
invariant-braces::fields-names l = with_front (map entry_of l.fields.items) (listed (named (expression l.depth)) (length l.fn.words - l._turn) l.rest)
    ≡ listed (named (expression l.depth)) (length l.fn.words) l.fn.words
