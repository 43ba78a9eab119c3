use Rattle.std.proofs.Common.{length, ap, sym, subst, ◌∙◌, arith}
use Rattle.pt_rv_laws.specs.State.{AllRest}
use Rattle.pt_rv_laws.specs.RvActs.{State}
use Rattle.pt_rv.specs.Core.{MayCome}
use Rattle.pt_rv.proofs.rv.Core.look_at_process.Goals as goal

pub look_by-requires : goal.look_by-requires
look_by-requires c = record {
  there = let e = ap (λ (s : State). length s.processes.plan.net.places) c.event-event.ensures in omega (arith, e, c.requires.there);
  running = ap (λ (s : State). s.stage) c.event-event.ensures ∙ c.requires.running;
  rests = subst (λ (s : State). AllRest s) (sym c.event-event.ensures) c.requires.rests;
}

pub returns : goal.returns
returns c = subst (λ (s : State). MayCome s c.look_by.result c.look_by.new.self) c.event-event.ensures c.look_by.ensures
