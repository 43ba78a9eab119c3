use Rattle.std.proofs.Common.{◌∙◌}
use Rattle.pt_flow_base.proofs.Places.{sum-is}
use Rattle.pt_flow_numbers.proofs.add_subtract.AddSubtract.sum.Goals as goal

pub returns : goal.returns
returns g c =
    c.without.ensures ∙ sum-is (g.I.Numbered.streams c.args.inputs.now) c.args.self.now.plus c.min-middle.result c.places-end.result c.places-end.ensures c.min-middle.ensures c.sum_between-plus.result.number c.sum_between-minus.result.number c.sum_between-plus.result.is_empty c.sum_between-minus.result.is_empty c.sum_between-plus.ensures.number c.sum_between-plus.ensures.empty c.sum_between-minus.ensures.number c.sum_between-minus.ensures.empty
