use Rattle.pt_pn.proofs.CoreLaws.{kept-hand}
use Rattle.pt_pn.proofs.StepLaws.{in-list, gathers, fire-made, fire-alone}
use Rattle.pt_pn.proofs.SettledLaws.{fired-settled}
use Rattle.pt_pn.proofs.pn.Core.fire.Goals as goal

pub hand_at-requires : goal.hand_at-requires
hand_at-requires c = record {
  there = in-list c.self.inside c.self.invariant c.args.self.now c.self.view_is c.args.process c.requires.may.there;
  gathers = gathers c.self.inside c.self.invariant c.args.self.now c.self.view_is c.requires.running c.args.process;
}

pub invariant_of-self : goal.invariant_of-self
invariant_of-self c = record {
  kept = kept-hand c.self.inside.network c.self.inside.processes.items c.self.inside.capacity.items c.self.inside.queues.lists c.self.inside.queues.spares c.self.inside.promised.items c.self.invariant.kept c.args.process c.hand_at.new.processes.items c.hand_at.ensures;
  stage = fire-alone c.self.inside c.self.invariant c.args.self.now c.self.view_is c.requires.running c.args.process c.requires.may c.hand_at.new.processes.items c.hand_at.ensures;
  settled = fired-settled c.self.inside.network c.self.inside.processes.items c.hand_at.new.processes.items c.self.inside.capacity.items c.self.inside.queues.lists c.self.inside.notes c.args.process c.hand_at.ensures c.self.invariant.settled;
}

pub returns : goal.returns
returns c = fire-made c.self.inside c.self.invariant c.args.self.now c.self.view_is c.requires.running c.args.process c.requires.may c.hand_at.new.processes.items c.hand_at.ensures
