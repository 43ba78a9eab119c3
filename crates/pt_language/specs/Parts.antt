-- The tree of an array or record literal, from the trees of its parts.
use Rattle.std.specs.Prelude.{◌≡◌, map, refl}
use Rattle.std.proofs.Common.{ap, sym, ◌∙◌}
use Rattle.pt_language.specs.declared.expr.Expr.{Expr, Row_of-Expr, end_of-Expr, more_of-Expr, items-the_row-Expr, items_hidden-the_row-Expr-0}
use Rattle.pt_language.specs.declared.expr.Expr.TheVariants as expr
use Rattle.pt_language.specs.declared.exprs.Exprs.{Exprs}
use Rattle.pt_language.specs.declared.exprs.NamedExprs.{NamedExprs, NamedExprs', roll-NamedExprs, roll-out-NamedExprs, out-NamedExprs, Row_of-NamedExpr, end_of-NamedExpr, more_of-NamedExpr, items-the_row-NamedExpr, items_hidden-the_row-NamedExpr-1}
use Rattle.pt_language.specs.Tree.{Array, Record, trees_of, named_of, tree_then, field_then}
use Rattle.pt_language.specs.Expr as in_memory
use Rattle.pt_language.specs.Expr.{tree_of, trees_of_row, named_of_row, entry_of, trees_in, fields_in}

abbrev row_of : Expr → (m : _) × Row_of-Expr m
row_of (expr.List' _ row) = (_, row)
row_of _ = (_, end_of-Expr)

trees_of_row-items : (m : _) (row : Row_of-Expr m) → trees_of_row row ≡ trees_of (map tree_of (items-the_row-Expr m row))
trees_of_row-items m end_of-Expr = refl
trees_of_row-items m (more_of-Expr e rest) = ap (tree_then (tree_of e)) (trees_of_row-items _ rest)

pub tree_of_array : (es : Exprs) → tree_of (expr.List es) ≡ Array (trees_of (trees_in es))
tree_of_array es =
    let row = row_of (expr.List es) in
    ap Array (trees_of_row-items row.0 row.1 ∙ ap (λ xs. trees_of (map tree_of xs)) (items_hidden-the_row-Expr-0 es.parts))

abbrev named_row_of : NamedExprs → (m : _) × Row_of-NamedExpr m
named_row_of (NamedExprs' _ row) = (_, row)

named_of_row-items : (m : _) (row : Row_of-NamedExpr m) → named_of_row row ≡ named_of (map entry_of (items-the_row-NamedExpr m row))
named_of_row-items m end_of-NamedExpr = refl
named_of_row-items m (more_of-NamedExpr n e rest) = ap (field_then n (tree_of e)) (named_of_row-items _ rest)

named_of-roll : (fs : NamedExprs) → in_memory.named_of (roll-NamedExprs (out-NamedExprs fs)) ≡ named_of (fields_in fs)
unfolding Rattle.pt_language.specs.declared.expr.Expr.TheBlock.hidden-the_row-NamedExpr-1 roll-NamedExprs out-NamedExprs denote.Hole.Carrier.roll denote.Hole.Carrier.out
named_of-roll fs =
    let row = named_row_of (roll-NamedExprs (out-NamedExprs fs)) in
    named_of_row-items row.0 row.1 ∙ ap (λ xs. named_of (map entry_of xs)) (items_hidden-the_row-NamedExpr-1 (out-NamedExprs fs).fields)

pub tree_of_record : (fs : NamedExprs) → tree_of (expr.Record fs) ≡ Record (named_of (fields_in fs))
tree_of_record fs = ap (λ gs. tree_of (expr.Record gs)) (sym (roll-out-NamedExprs fs)) ∙ ap Record (named_of-roll fs)
