use Rattle.std.proofs.Common.{subst}
use Rattle.std.specs.Prelude.{option_map}
use Rattle.std.proofs.lemmas.Result.{IfOk-weaker}
use Rattle.pt_language.specs.Expr.{tree_of}
use Rattle.pt_inequalities.specs.Modals.{IsParsedAs}
use Rattle.pt_charts.specs.Views.{scope_view}
use Rattle.pt_inequalities.proofs.ChartLaws.{read-in}
use Rattle.pt_charts.proofs.modal_texts.read_text.Goals as goal

pub returns-in-Some : goal.returns-in-Some
returns-in-Some c =
    let read = subst (λ o. IsParsedAs c.args.text.now (option_map tree_of o)) c.in-Some.is c.in_ok-tree.ensures in
    IfOk-weaker c.in_scope.result _ _ (λ o is. read-in (scope_view c.args.scope.now) c.args.text.now (tree_of c.in-Some.tree) read (option_map tree_of o) is) c.in_scope.ensures

pub returns-in-None : goal.returns-in-None
returns-in-None c =
    let none = subst (λ o. IsParsedAs c.args.text.now (option_map tree_of o)) c.in-None.is c.in_ok-tree.ensures in
    λ t r. none t r.is_read
