use Rattle.std.proofs.Common.{◌≡◌, ◌++◌, ◌+◌, ◌*◌, take, map, max, string_bytes}
use Rattle.pt_language.specs.Expr.{tree_of, entry_of, trees_in, fields_in}
use Rattle.pt_language.specs.Tree.{trees_of, named_of, height, height_of_trees, height_of_named}
use Rattle.pt_expr_print.proofs.Parts.{array_body, record_body}
use Rattle.pt_expr_print.proofs.printed.+writes.Given as goal

abbrev pub invariant-write_fields-loop-index : goal.invariant-write_fields-loop-index
invariant-write_fields-loop-index l =
    (map entry_of l.field-items ≡ fields_in l.fields) × (string_bytes l.out ≡ string_bytes l.initial.out ++ record_body (take l.index l.field-items))

abbrev pub invariant-write_parts-loop-index : goal.invariant-write_parts-loop-index
invariant-write_parts-loop-index l =
    (map tree_of l.part-items ≡ trees_in l.parts) × (string_bytes l.out ≡ string_bytes l.initial.out ++ array_body (take l.index l.part-items))

-- four for each level: a tree itself, then a tree in parentheses, then an operand, a base or a call, then a choice
abbrev pub decreases-write : goal.decreases-write
decreases-write l = 4 * height (tree_of l.tree.now)

abbrev pub decreases-write_enclosed : goal.decreases-write_enclosed
decreases-write_enclosed l = 4 * height (tree_of l.tree.now) + 1

abbrev pub decreases-write_call : goal.decreases-write_call
decreases-write_call l = 4 * height (tree_of l.operand.now) + 2

abbrev pub decreases-write_call_of_two : goal.decreases-write_call_of_two
decreases-write_call_of_two l = 4 * max (height (tree_of l.first.now)) (height (tree_of l.second.now)) + 1

abbrev pub decreases-write_operand : goal.decreases-write_operand
decreases-write_operand l = 4 * height (tree_of l.tree.now) + 2

abbrev pub decreases-write_base : goal.decreases-write_base
decreases-write_base l = 4 * height (tree_of l.tree.now) + 2

abbrev pub decreases-write_choice : goal.decreases-write_choice
decreases-write_choice l = 4 * max (height (tree_of l.test.now)) (max (height (tree_of l.yes.now)) (height (tree_of l.no.now))) + 3

abbrev pub decreases-write_parts : goal.decreases-write_parts
decreases-write_parts l = 4 * height_of_trees (trees_of (trees_in l.parts.now)) + 1

abbrev pub decreases-write_fields : goal.decreases-write_fields
decreases-write_fields l = 4 * height_of_named (named_of (fields_in l.fields.now)) + 1
