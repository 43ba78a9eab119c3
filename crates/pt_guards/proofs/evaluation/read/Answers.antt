use Rattle.std.proofs.lemmas.Result.{IfOk-weaker}
use Rattle.pt_language.specs.Expr.{tree_of}
use Rattle.pt_language.specs.Meaning.{value}
use Rattle.pt_expr.specs.Env.{scope_of}
use Rattle.pt_chart.specs.Chart.{reading_of}
use Rattle.pt_guards.specs.Told.{reading_view, told_reading}
use Rattle.pt_guards.specs.declared.evaluation.Reading.{Reading}
use Rattle.std.proofs.Common.{◌≡◌}
use Rattle.pt_guards.proofs.EvaluationLaws.{reading-told}
use Rattle.pt_guards.proofs.evaluation.read.Goals as goal

pub returns-in-None : goal.returns-in-None
returns-in-None c =
    let o = value (scope_of c.args.env.now) (tree_of c.args.tree.now) in
    IfOk-weaker c.told.result (λ (t : Reading). told_reading c.eval.result (reading_view t)) (λ (t : Reading). reading_view t ≡ reading_of o) (λ t told. reading-told c.eval.result o (reading_view t) c.eval.ensures.ok c.eval.ensures.err told) c.told.ensures
