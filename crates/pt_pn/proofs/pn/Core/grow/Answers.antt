use Rattle.std.proofs.Common.{set, refl, ap}
use Rattle.pt_pn.proofs.CoreLaws.{kept-grown}
use Rattle.pt_pn.proofs.CallLaws.{grow-made}
use Rattle.pt_pn.proofs.StepLaws.{read-greatest}
use Rattle.pt_pn.proofs.SettledLaws.{grown-settled}
use Rattle.pt_pn.proofs.pn.Core.grow.Goals as goal

pub invariant_of-self : goal.invariant_of-self
invariant_of-self c = record {
  kept = kept-grown c.self.inside.network c.self.inside.processes.items c.self.inside.capacity.items c.self.inside.queues.lists c.self.inside.queues.spares c.self.inside.promised.items c.self.invariant.kept c.args.channel c.doubled.result _ refl;
  stage = c.self.invariant.stage;
  settled = grown-settled c.self.inside.network c.self.inside.processes.items c.self.inside.capacity.items _ c.self.inside.queues.lists c.self.inside.notes c.note_room.new.self c.args.channel c.doubled.result refl c.note_room.ensures c.self.invariant.settled;
}

pub returns : goal.returns
returns c = grow-made c.self.inside c.self.invariant c.args.self.now c.self.view_is c.requires.running c.requires.stopped c.args.channel c.args.capacity c.greatest-greatest.result _ c.requires.best (read-greatest c.self.inside c.self.invariant c.args.self.now c.self.view_is c.args.channel c.greatest-greatest.result c.greatest-greatest.ensures) (ap (λ k. set c.self.inside.capacity.items c.args.channel k) c.doubled.ensures)
