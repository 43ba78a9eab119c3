use Rattle.pt_pn.proofs.FreshLaws.{needs-fit}
use Rattle.pt_pn.proofs.fresh.Fresh.of.Goals as goal

pub processes_of-requires-clause-fits : goal.processes_of-requires-clause-fits
processes_of-requires-clause-fits c i h = needs-fit c.plan-plan.result.now c.args.network.now c.deref.result.now c.as_slice.result.now c.plan-plan.ensures c.deref.ensures.value c.as_slice.ensures c.requires i h
