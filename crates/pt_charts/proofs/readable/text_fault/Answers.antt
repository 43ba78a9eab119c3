use Rattle.std.proofs.Common.{◌≡◌, Err, inl}
use Rattle.std.proofs.lemmas.Result.{IfOk-weaker}
use Rattle.pt_language.specs.Expr.{tree_of}
use Rattle.pt_language.specs.declared.parse_fault.ParseFault.TheVariants.{Syntax, Deep}
use Rattle.pt_charts.specs.Views.{scope_view}
use Rattle.pt_charts.proofs.ReadableLaws.{is-found}
use Rattle.pt_charts.proofs.readable.text_fault.Goals as goal

pub returns-in-Ok : goal.returns-in-Ok
returns-in-Ok c =
    IfOk-weaker c.names_fault.result _ _
    (λ found is. is-found (scope_view c.args.scope.now) c.args.text.now (tree_of c.in-Ok.tree) c.in-Ok.ensures.shallow c.in-Ok.ensures.tree found is)
    c.names_fault.ensures

pub returns-in-Err-Syntax : goal.returns-in-Err-Syntax
returns-in-Err-Syntax c =
    let e : c.parse.result ≡ Err Syntax = cc in
    inl (record { shallow = c.parse.ensures.syntax e; none = c.parse.ensures.refuses e })

pub returns-in-Err-Deep : goal.returns-in-Err-Deep
returns-in-Err-Deep c =
    let e : c.parse.result ≡ Err Deep = cc in
    inl (c.parse.ensures.deep e)
