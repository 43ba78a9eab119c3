use Rattle.std.proofs.Common.{◌≡◌, IfOk, rules}
use Rattle.pt_language.specs.Expr.{tree_of}
use Rattle.pt_expr_print.specs.Printed.{printed}
use Rattle.pt_expr_print.proofs.Whole.{answer_reads}
use Rattle.pt_expr_print.proofs.printed.print.Goals as goal

pub returns-clause-reads : goal.returns-clause-reads
returns-clause-reads c =
    let e : IfOk c.of.result (λ text. text ≡ printed (tree_of c.args.tree.now)) = search rules in
    answer_reads c.of.result (tree_of c.args.tree.now) c.requires.readable e
