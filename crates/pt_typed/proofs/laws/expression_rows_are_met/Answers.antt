use Rattle.pt_typed.proofs.ExpressionRows.{expression-rows-met}
use Rattle.pt_typed.proofs.laws.expression_rows_are_met.Goals as goal

pub returns : goal.returns
returns c = expression-rows-met
