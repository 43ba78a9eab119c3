use Rattle.std.proofs.Common.{length, ap, sym, subst, ◌∙◌, arith}
use Rattle.pt_meaning.specs.Log.{Barrier}
use Rattle.pt_rv_laws.specs.State.{AllRest}
use Rattle.pt_rv_laws.specs.RvActs.{State}
use Rattle.pt_rv.specs.Core.{MayCome}
use Rattle.pt_rv.proofs.CoreLaws.{looks-come}
use Rattle.pt_rv.proofs.rv.Core.look_at_join.Goals as goal

pub returns-then-misses : goal.returns-then-misses
returns-then-misses c = c.misses.ensures

pub look_at_barrier-requires : goal.look_at_barrier-requires
look_at_barrier-requires c = record {
  there = let e = ap (λ (s : State). length s.processes.plan.net.places) c.misses.ensures in omega (arith, e, c.requires.there);
  running = ap (λ (s : State). s.stage) c.misses.ensures ∙ c.requires.running;
  rests = subst (λ (s : State). AllRest s) (sym c.misses.ensures) c.requires.rests;
}

pub returns : goal.returns
returns c = subst (λ (s : State). MayCome s c.look_at_barrier.result c.look_at_barrier.new.self) c.misses.ensures (looks-come c.misses.new.self (Barrier c.args.barrier) c.look_at_barrier.result c.look_at_barrier.new.self c.look_at_barrier.ensures)
