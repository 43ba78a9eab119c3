use Rattle.std.proofs.Common.{◌≡◌, ◌+◌, ◌*◌, ◌++◌, drop, map}
use Rattle.pt_language.specs.Expr.{tree_of, entry_of, trees_in, fields_in}
use Rattle.pt_language.specs.Tree.{height, height_of_trees, height_of_named, trees_of, named_of}
use Rattle.pt_scopes.specs.Texts.{names_in_parts, names_in_fields}
use Rattle.pt_scopes.proofs.tree_names.+names.Given as goal

abbrev pub decreases-add_names : goal.decreases-add_names
decreases-add_names l = 2 * height (tree_of l.tree.now)

abbrev pub decreases-add_names_of_parts : goal.decreases-add_names_of_parts
decreases-add_names_of_parts l = 2 * height_of_trees (trees_of (trees_in l.parts.now)) + 1

abbrev pub decreases-add_names_of_fields : goal.decreases-add_names_of_fields
decreases-add_names_of_fields l = 2 * height_of_named (named_of (fields_in l.fields.now)) + 1

abbrev pub invariant-add_names_of_parts-loop-part : goal.invariant-add_names_of_parts-loop-part
invariant-add_names_of_parts-loop-part l =
    l.names.items ++ names_in_parts (trees_of (map tree_of (drop l.part-index l.part-items))) ≡ l.initial.names.items ++ names_in_parts (trees_of (trees_in l.parts))

abbrev pub invariant-add_names_of_fields-loop-field : goal.invariant-add_names_of_fields-loop-field
invariant-add_names_of_fields-loop-field l =
    l.names.items ++ names_in_fields (named_of (map entry_of (drop l.field-index l.field-items))) ≡ l.initial.names.items ++ names_in_fields (named_of (fields_in l.fields))
