use Rattle.pt_flow_numbers.proofs.Quotients.{ratio-none, ratio-some}
use Rattle.pt_flow_numbers.proofs.multiply_divide.MultiplyDivide.ratio.Goals as goal

pub returns-then-sum_between : goal.returns-then-sum_between
returns-then-sum_between g c = ratio-none (g.I.Numbered.streams c.args.inputs.now) c.args.self.now.multiply c.places-end.result c.sum_between.result.is_empty c.places-end.ensures c.sum_between.ensures.empty c.if-sum_between.true

pub returns : goal.returns
returns g c = ratio-some (g.I.Numbered.streams c.args.inputs.now) c.args.self.now.multiply c.min-middle.result c.places-end.result c.sum_between.result.is_empty c.quotient.result c.places-end.ensures c.min-middle.ensures c.sum_between.ensures.empty c.if-sum_between.false c.quotient.ensures
