use Rattle.std.proofs.Common.{Some}
use Rattle.std.proofs.lemmas.Result.{err_from_is_err_and}
use Rattle.pt_language.specs.Expr.{tree_of}
use Rattle.pt_expr_text.proofs.Lone.{read_as, fails_as}
use Rattle.pt_expr_text.proofs.parser.front.Goals as goal

pub returns-in_ok-positive-in-Some : goal.returns-in_ok-positive-in-Some
returns-in_ok-positive-in-Some c =
    read_as c.args.depth c.in-Some.number c.args.words.now (Some (tree_of c.in_ok-positive-in-Some.field-0)) c.requires c.in-Some.ensures c.in_ok-positive-in-Some.ensures

pub returns-in_err-positive-in-Some : goal.returns-in_err-positive-in-Some
returns-in_err-positive-in-Some c =
    let p = err_from_is_err_and c.from_residual.result c.from_residual.ensures.1 in
    rw (p.1, p.2) (fails_as c.in_err-positive-in-Some.field-0.0 c.args.depth c.in-Some.number c.args.words.now c.requires c.in-Some.ensures c.in_err-positive-in-Some.ensures)
