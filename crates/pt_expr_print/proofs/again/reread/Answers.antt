use Rattle.std.proofs.Common.{rules}
use Rattle.pt_language.specs.Expr.{tree_of}
use Rattle.pt_language.specs.Text.{ReadsAs}
use Rattle.pt_expr_print.proofs.Whole.{answer_same}
use Rattle.pt_expr_print.proofs.again.reread.Goals as goal

pub returns-clause-same : goal.returns-clause-same
returns-clause-same c =
    let h : ReadsAs c.as_str.result.now (tree_of c.args.tree.now) = search rules in
    answer_same c.parse.result c.as_str.result.now (tree_of c.args.tree.now) h c.parse.ensures.only

pub returns-clause-syntax : goal.returns-clause-syntax
returns-clause-syntax c =
    λ e.
    let h : ReadsAs c.as_str.result.now (tree_of c.args.tree.now) = search rules in
    c.parse.ensures.refuses e (tree_of c.args.tree.now) h
