use Rattle.std.proofs.Common.{◌≡◌, ◌+◌, ◌*◌, drop, map}
use Rattle.pt_types.specs.Ty as ty
use Rattle.pt_language.specs.Expr.{tree_of, entry_of, trees_in, fields_in}
use Rattle.pt_language.specs.Tree.{height, height_of_trees, height_of_named, trees_of, named_of}
use Rattle.pt_language.specs.Answer as answers
use Rattle.pt_types.specs.Entry.{typed_entry}
use Rattle.pt_expr_type.specs.TypeEnv.{types_in}
use Rattle.pt_expr_type.proofs.Steps.{behind, joined_with}
use Rattle.pt_expr_type.proofs.tree.+answers.Given as goal

abbrev pub decreases-answer : goal.decreases-answer
decreases-answer l = 2 * height (tree_of l.expr.now)

abbrev pub decreases-named_answer : goal.decreases-named_answer
decreases-named_answer l = 2 * height_of_named (named_of (fields_in l.fields.now)) + 1

abbrev pub decreases-parts_answer : goal.decreases-parts_answer
decreases-parts_answer l = 2 * height_of_trees (trees_of (trees_in l.parts.now)) + 1

abbrev pub invariant-named_answer-loop-field : goal.invariant-named_answer-loop-field
invariant-named_answer-loop-field l =
    answers.named_answer (types_in l.env) (named_of (fields_in l.fields)) ≡ behind (map typed_entry l.pairs.items) (answers.named_answer (types_in l.env) (named_of (map entry_of (drop l.field-index l.field-items))))

abbrev pub invariant-parts_answer-loop-part : goal.invariant-parts_answer-loop-part
invariant-parts_answer-loop-part l =
    answers.parts_answer (types_in l.env) (trees_of (trees_in l.parts)) ≡ joined_with (ty.type_of l.joined) (answers.parts_answer (types_in l.env) (trees_of (map tree_of (drop l.part-index l.part-items))))
