use Rattle.pt_pn.proofs.FreshLaws.{fresh-is, fresh-kept, fresh-handed}
use Rattle.pt_pn.proofs.SettledLaws.{none-settled}
use Rattle.pt_pn.proofs.pn.Core.with.Goals as goal

pub invariant_of-result : goal.invariant_of-result
invariant_of-result c = record {
  kept = fresh-kept c.args.network c.requires.sound c.args.fresh.processes.items c.args.fresh.capacity.items c.args.fresh.queues.lists c.args.fresh.queues.spares c.args.fresh.promised.items c.requires.fresh.processes c.requires.fresh.capacity c.requires.fresh.lists c.requires.fresh.spares c.requires.fresh.promised;
  stage = fresh-handed c.args.network c.requires.sound c.args.fresh.processes.items c.requires.fresh.processes;
  settled = none-settled c.args.network c.args.fresh.processes.items c.args.fresh.capacity.items c.args.fresh.queues.lists c.in-Ok.notes c.in-Ok.ensures;
}

pub returns-in-Ok : goal.returns-in-Ok
returns-in-Ok c = fresh-is c.args.network c.requires.sound c.args.fresh.processes.items c.args.fresh.capacity.items c.args.fresh.queues.lists c.requires.fresh.processes c.requires.fresh.capacity c.requires.fresh.lists
