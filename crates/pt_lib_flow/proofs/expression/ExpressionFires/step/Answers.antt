use Rattle.std.proofs.Common.{◌≡◌, true, sym, ap, ◌∙◌, rules}
use Rattle.pt_formula.specs.Formula.{are_of}
use Rattle.pt_lib_flow.proofs.Evaluations.{step-told}
use Rattle.pt_lib_flow.proofs.expression.ExpressionFires.step.Goals as goal

pub returns-clause-made : goal.returns-clause-made
returns-clause-made c =
    let fit : are_of c.args.self.now.inputs c.args.inputs.now ≡ true = search rules in
    step-told c.args._tag c.args.self.now c.evaluate.new.self c.args.inputs.now c.evaluate.result c.told.result fit c.evaluate.ensures.ok c.evaluate.ensures.err c.evaluate.ensures.kept c.told.ensures
