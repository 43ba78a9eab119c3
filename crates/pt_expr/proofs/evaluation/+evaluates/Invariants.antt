use Rattle.std.proofs.Common.{◌≡◌, ◌+◌, ◌*◌, drop, map}
use Rattle.pt_value.specs.Token.{value_of, entry_of_pair}
use Rattle.pt_expr.specs.Env.{scope_of}
use Rattle.pt_language.specs.Expr.{tree_of, entry_of, trees_in, fields_in}
use Rattle.pt_language.specs.Tree.{height, height_of_trees, height_of_named, trees_of, named_of}
use Rattle.pt_language.specs.Meaning.{values, named_values}
use Rattle.pt_expr.proofs.Steps.{behind}
use Rattle.pt_expr.proofs.evaluation.+evaluates.Given as goal

abbrev pub decreases-eval : goal.decreases-eval
decreases-eval l = 4 * height (tree_of l.expr.now)

abbrev pub decreases-operated : goal.decreases-operated
decreases-operated l = 4 * height (tree_of l.later.now) + 2

abbrev pub decreases-truth_of : goal.decreases-truth_of
decreases-truth_of l = 4 * height (tree_of l.operand.now) + 1

abbrev pub decreases-operands : goal.decreases-operands
decreases-operands l = 4 * height (tree_of l.later.now) + 1

abbrev pub decreases-part_values : goal.decreases-part_values
decreases-part_values l = 4 * height_of_trees (trees_of (trees_in l.parts.now)) + 1

abbrev pub decreases-field_values : goal.decreases-field_values
decreases-field_values l = 4 * height_of_named (named_of (fields_in l.fields.now)) + 1

abbrev pub invariant-part_values-loop-part : goal.invariant-part_values-loop-part
invariant-part_values-loop-part l =
    values (scope_of l.env) (trees_of (trees_in l.parts)) ≡ behind (map value_of l.tokens.items) (values (scope_of l.env) (trees_of (map tree_of (drop l.part-index l.part-items))))

abbrev pub invariant-field_values-loop-field : goal.invariant-field_values-loop-field
invariant-field_values-loop-field l =
    named_values (scope_of l.env) (named_of (fields_in l.fields)) ≡ behind (map entry_of_pair l.pairs.items) (named_values (scope_of l.env) (named_of (map entry_of (drop l.field-index l.field-items))))
