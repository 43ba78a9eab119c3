use Rattle.std.proofs.lemmas.Result.{IfOk-weaker}
use Rattle.pt_language.specs.Expr.{tree_of}
use Rattle.pt_language.specs.Meaning.{value}
use Rattle.pt_expr.specs.Env.{scope_of}
use Rattle.pt_chart.specs.Chart.{test_of}
use Rattle.pt_guards.specs.Told.{test_view, told_test}
use Rattle.pt_guards.specs.declared.evaluation.Test.{Test}
use Rattle.std.proofs.Common.{◌≡◌}
use Rattle.pt_guards.proofs.EvaluationLaws.{test-told}
use Rattle.pt_guards.proofs.evaluation.test_guard.Goals as goal

pub returns-in-None : goal.returns-in-None
returns-in-None c =
    let o = value (scope_of c.args.env.now) (tree_of c.args.guard.now) in
    IfOk-weaker c.tested.result (λ (t : Test). told_test c.eval.result (test_view t)) (λ (t : Test). test_view t ≡ test_of o) (λ t told. test-told c.eval.result o (test_view t) c.eval.ensures.ok c.eval.ensures.err told) c.tested.ensures
