use Rattle.std.proofs.Common.{◌+◌, ap, refl, ◌∙◌, sym}
use Rattle.pt_pn_laws.specs.State.{offset_of}
use Rattle.pt_pn_work.specs.Core.{State}
use Rattle.pt_process.specs.Process.{with_token}
use Rattle.pt_pn.proofs.CoreLaws.{kept-get}
use Rattle.pt_pn.proofs.StepLaws.{in-list, gathers, lacks-so, get-channel, get-made, handed-still}
use Rattle.pt_pn.proofs.SettledLaws.{get-settled}
use Rattle.pt_pn.proofs.pn.Core.get.Goals as goal

pub get_from-requires : goal.get_from-requires
get_from-requires c =
    let g = get-channel c.self.inside c.self.invariant c.args.self.now c.self.view_is c.args.process c.args.place c.args.channel c.requires.may c.requires.channel in
    record {
      channel = g.0;
      some = g.1;
      there = in-list c.self.inside c.self.invariant c.args.self.now c.self.view_is c.args.process c.requires.may.there;
      gathers = gathers c.self.inside c.self.invariant c.args.self.now c.self.view_is c.requires.running c.args.process;
      lacks = lacks-so c.self.inside c.self.invariant c.args.self.now c.self.view_is c.args.process c.args.place c.requires.may.there c.requires.may.next;
    }

pub invariant_of-self : goal.invariant_of-self
invariant_of-self c = record {
  kept = kept-get c.self.inside.network c.self.inside.processes.items c.self.inside.capacity.items c.self.inside.queues.lists c.self.inside.queues.spares c.self.inside.promised.items c.self.invariant.kept c.args.process c.args.place c.args.channel c.get_from.ensures.token c.get_from.new.processes.items
      c.get_from.new.queues.lists c.get_from.new.queues.spares c.get_from.ensures.got c.get_from.ensures.lists c.get_from.ensures.spares;
  stage = handed-still c.self.inside c.self.invariant c.args.self.now c.self.view_is c.requires.running c.args.process (with_token c.args.place c.get_from.ensures.token) c.get_from.new.processes.items (λ p. refl) c.get_from.ensures.got;
  settled = get-settled c.self.inside.network c.self.inside.processes.items c.get_from.new.processes.items c.self.inside.capacity.items c.self.inside.queues.lists c.get_from.new.queues.lists c.self.inside.notes c.note_get.new.self c.args.process c.args.channel (with_token c.args.place c.get_from.ensures.token)
      c.get_from.ensures.got c.get_from.ensures.lists c.note_get.ensures c.self.invariant.settled;
}

pub returns : goal.returns
returns c =
    get-made c.self.inside c.self.invariant c.args.self.now c.self.view_is c.requires.running c.args.process c.args.place c.args.channel c.requires.may c.get_from.ensures.token c.get_from.new.processes.items c.get_from.new.queues.lists
    (c.requires.channel ∙ sym (ap (λ (s : State). offset_of s.network.plan.net.places c.args.process + c.args.place) c.self.view_is)) c.get_from.ensures.first c.get_from.ensures.got c.get_from.ensures.lists
