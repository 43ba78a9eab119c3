use Rattle.std.proofs.Common.{refl, sym, subst}
use Rattle.pt_pn_laws.specs.State.{MayFire}
use Rattle.pt_process.specs.declared.process.Event.TheVariants as event
use Rattle.pt_pn_work.specs.Core.{State, PutsOn, LacksAt}
use Rattle.pt_pn.proofs.StepLaws.{in-list, gathers, still, stage-still, next-does}
use Rattle.pt_pn.proofs.CoreLaws.{kept-same}
use Rattle.pt_pn.proofs.SettledLaws.{same-settled, over-noted}
use Rattle.pt_pn.proofs.pn.Core.look.Goals as goal

pub next_of-requires : goal.next_of-requires
next_of-requires c = record {
  there = in-list c.self.inside c.self.invariant c.args.self.now c.self.view_is c.args.process c.requires.there;
  gathers = gathers c.self.inside c.self.invariant c.args.self.now c.self.view_is c.requires.running c.args.process;
}

pub look_at_put-requires-clause-puts : goal.look_at_put-requires-clause-puts
look_at_put-requires-clause-puts c =
    subst (λ (s : State). PutsOn s c.args.process c.in-Put.channel) (sym (still c.self.inside c.self.invariant c.args.self.now c.self.view_is c.next_of.new.processes.items c.next_of.ensures.same))
    (next-does c.self.inside c.self.invariant c.args.self.now c.self.view_is c.args.process c.requires.there (event.Put c.in-Put.channel) c.in-Put.ensures.next)

pub look_at_get-requires-clause-lacks : goal.look_at_get-requires-clause-lacks
look_at_get-requires-clause-lacks c =
    subst (λ (s : State). LacksAt s c.args.process c.in-Get.place) (sym (still c.self.inside c.self.invariant c.args.self.now c.self.view_is c.next_of.new.processes.items c.next_of.ensures.same))
    (next-does c.self.inside c.self.invariant c.args.self.now c.self.view_is c.args.process c.requires.there (event.Get c.in-Get.place) c.in-Get.ensures.next)

pub fire-requires-clause-may : goal.fire-requires-clause-may
fire-requires-clause-may c =
    subst (λ (s : State). MayFire s c.args.process) (sym (still c.self.inside c.self.invariant c.args.self.now c.self.view_is c.next_of.new.processes.items c.next_of.ensures.same))
    (next-does c.self.inside c.self.invariant c.args.self.now c.self.view_is c.args.process c.requires.there event.Fire c.in-Fire.ensures.next)

pub returns-in-Over : goal.returns-in-Over
returns-in-Over c = (
  next-does c.self.inside c.self.invariant c.args.self.now c.self.view_is c.args.process c.requires.there event.Over c.in-Over.ensures.next,
  still c.self.inside c.self.invariant c.args.self.now c.self.view_is c.next_of.new.processes.items c.next_of.ensures.same,
)

pub invariant_of-self : goal.invariant_of-self
invariant_of-self c = record {
  kept = kept-same c.self.inside.network c.self.inside.processes.items c.self.inside.capacity.items c.self.inside.queues.lists c.self.inside.queues.spares c.self.inside.promised.items c.self.invariant.kept c.next_of.new.processes.items c.next_of.ensures.same;
  stage = stage-still c.self.inside c.self.invariant c.args.self.now c.self.view_is c.next_of.new.processes.items c.next_of.ensures.same;
  settled = same-settled c.self.inside.network c.self.inside.processes.items c.next_of.new.processes.items c.self.inside.capacity.items c.self.inside.queues.lists c.self.inside.queues.lists c.self.inside.notes c.next_of.ensures.same refl c.self.invariant.settled;
}

pub invariant_of-self-in-Get : goal.invariant_of-self-in-Get
invariant_of-self-in-Get c = record {
  kept = kept-same c.self.inside.network c.self.inside.processes.items c.self.inside.capacity.items c.self.inside.queues.lists c.self.inside.queues.spares c.self.inside.promised.items c.self.invariant.kept c.next_of.new.processes.items c.next_of.ensures.same;
  stage = stage-still c.self.inside c.self.invariant c.args.self.now c.self.view_is c.next_of.new.processes.items c.next_of.ensures.same;
  settled = same-settled c.self.inside.network c.self.inside.processes.items c.next_of.new.processes.items c.self.inside.capacity.items c.self.inside.queues.lists c.self.inside.queues.lists c.self.inside.notes c.next_of.ensures.same refl c.self.invariant.settled;
}

pub invariant_of-self-in-Fire : goal.invariant_of-self-in-Fire
invariant_of-self-in-Fire c = record {
  kept = kept-same c.self.inside.network c.self.inside.processes.items c.self.inside.capacity.items c.self.inside.queues.lists c.self.inside.queues.spares c.self.inside.promised.items c.self.invariant.kept c.next_of.new.processes.items c.next_of.ensures.same;
  stage = stage-still c.self.inside c.self.invariant c.args.self.now c.self.view_is c.next_of.new.processes.items c.next_of.ensures.same;
  settled = same-settled c.self.inside.network c.self.inside.processes.items c.next_of.new.processes.items c.self.inside.capacity.items c.self.inside.queues.lists c.self.inside.queues.lists c.self.inside.notes c.next_of.ensures.same refl c.self.invariant.settled;
}

pub invariant_of-self-in-Over : goal.invariant_of-self-in-Over
invariant_of-self-in-Over c = record {
  kept = kept-same c.self.inside.network c.self.inside.processes.items c.self.inside.capacity.items c.self.inside.queues.lists c.self.inside.queues.spares c.self.inside.promised.items c.self.invariant.kept c.next_of.new.processes.items c.next_of.ensures.same;
  stage = stage-still c.self.inside c.self.invariant c.args.self.now c.self.view_is c.next_of.new.processes.items c.next_of.ensures.same;
  settled = same-settled c.self.inside.network c.self.inside.processes.items c.next_of.new.processes.items c.self.inside.capacity.items c.self.inside.queues.lists c.self.inside.queues.lists c.rest.new.self c.next_of.ensures.same refl
      (over-noted c.self.inside.network c.self.inside.processes.items c.self.inside.capacity.items c.self.inside.queues.lists c.self.inside.notes c.rest.new.self c.args.process c.in-Over.ensures.next c.rest.ensures c.self.invariant.settled);
}
