use Rattle.std.proofs.Common.{◌≡◌, take, map}
use Rattle.pt_language.specs.Expr.{tree_of, entry_of, trees_in, fields_in}
use Rattle.pt_language.proofs.+copies.Given as goal

abbrev pub invariant-exprs::Exprs::copy-loop-part : goal.invariant-exprs::Exprs::copy-loop-part
invariant-exprs::Exprs::copy-loop-part l =
    (map tree_of l.part-items ≡ trees_in l.self) × (map tree_of l.parts.items ≡ take l.part-index (trees_in l.self))

abbrev pub invariant-exprs::NamedExprs::copy-loop-field : goal.invariant-exprs::NamedExprs::copy-loop-field
invariant-exprs::NamedExprs::copy-loop-field l =
    (map entry_of l.field-items ≡ fields_in l.self) × (map entry_of l.fields.items ≡ take l.field-index (fields_in l.self))
