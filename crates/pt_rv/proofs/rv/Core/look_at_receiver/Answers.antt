use Rattle.std.proofs.Common.{length, ap, sym, subst, ◌∙◌, arith}
use Rattle.pt_rv_laws.specs.State.{AllRest}
use Rattle.pt_rv_laws.specs.RvActs.{State}
use Rattle.pt_rv.specs.Core.{MayCome}
use Rattle.pt_rv.proofs.rv.Core.look_at_receiver.Goals as goal

pub event-event-requires : goal.event-event-requires
event-event-requires c = record {
  there = let v = ap (λ (s : State). length s.processes.plan.net.places) c.self.view_is in omega (arith, v, c.if-process-processes.false, c.processes.ensures.count);
  running = c.requires.running;
}

pub look_from-requires : goal.look_from-requires
look_from-requires c = record {
  there = let e = ap (λ (s : State). length s.processes.plan.net.places) c.event-event.ensures in let v = ap (λ (s : State). length s.processes.plan.net.places) c.self.view_is in omega (arith, e, v, c.if-process-processes.false, c.processes.ensures.count);
  running = ap (λ (s : State). s.stage) c.event-event.ensures ∙ c.requires.running;
  rests = subst (λ (s : State). AllRest s) (sym c.event-event.ensures) c.requires.rests;
}

pub returns : goal.returns
returns c = subst (λ (s : State). MayCome s c.look_from.result c.look_from.new.self) c.event-event.ensures c.look_from.ensures
