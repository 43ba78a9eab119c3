use Rattle.pt_plan.proofs.Planned.{is-cut}
use Rattle.pt_plan.proofs.planning.counts_in.Goals as goal

pub returns : goal.returns
returns c =
    is-cut c.args.inside.now c.len-children.result c.args.q.now c.in_ok-counts_of.field-0 c.in_ok-counts_of-2.field-0 c.in_ok-counts_of-3.field-0 c.len-children.ensures c.in_ok-counts_of.ensures c.in_ok-counts_of-2.ensures c.in_ok-counts_of-3.ensures
