use Rattle.pt_pn.proofs.CallLaws.{finish-keeps, finish-fits}
use Rattle.pt_pn.proofs.SettledLaws.{finished-settled}
use Rattle.pt_pn.proofs.pn.Core.finish.Goals as goal

pub invariant_of-self-2 : goal.invariant_of-self-2
invariant_of-self-2 c = record {
  kept = finish-keeps c.self.inside c.self.invariant c.args.self.now c.self.view_is c.inner-from.result c.hand_out.new.queues.lists c.hand_out.new.queues.spares c.inner-from.ensures c.in_ok-outputs.ensures.left c.hand_out.ensures.spares c.hand_out.ensures.more;
  stage = finish-fits c.self.inside c.self.invariant c.args.self.now c.self.view_is c.requires;
  settled = finished-settled c.self.inside.network c.self.inside.processes.items c.self.inside.capacity.items c.self.inside.queues.lists c.hand_out.new.queues.lists c.self.inside.notes c.inner-from.result c.inner-from.ensures c.in_ok-outputs.ensures.left c.self.invariant.settled;
}
