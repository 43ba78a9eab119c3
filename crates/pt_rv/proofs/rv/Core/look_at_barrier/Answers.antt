use Rattle.std.proofs.Common.{length, ap, sym, subst, ◌∙◌, arith}
use Rattle.pt_meaning.specs.Log.{Barrier}
use Rattle.pt_rv_laws.specs.State.{AllRest, IsLegal}
use Rattle.pt_rv_laws.specs.RvActs.{State}
use Rattle.pt_rv.specs.Core.{Comes}
use Rattle.pt_rv.proofs.rv.Core.look_at_barrier.Goals as goal

pub is_barrier_legal-requires : goal.is_barrier_legal-requires
is_barrier_legal-requires c = record { there = c.requires.there; running = c.requires.running }

pub meet_barrier-requires : goal.meet_barrier-requires
meet_barrier-requires c = record {
  there = let e = ap (λ (s : State). length s.processes.plan.net.places) c.is_barrier_legal.ensures.same in omega (arith, e, c.requires.there);
  running = ap (λ (s : State). s.stage) c.is_barrier_legal.ensures.same ∙ c.requires.running;
  rests = subst (λ (s : State). AllRest s) (sym c.is_barrier_legal.ensures.same) c.requires.rests;
  legal = subst (λ (s : State). IsLegal s (Barrier c.args.barrier)) (sym c.is_barrier_legal.ensures.same) (c.is_barrier_legal.ensures.legal c.if-is_barrier_legal.true);
}

pub returns-then-is_barrier_legal : goal.returns-then-is_barrier_legal
returns-then-is_barrier_legal c = subst (λ (s : State). Comes s c.meet_barrier.result c.meet_barrier.new.self) c.is_barrier_legal.ensures.same c.meet_barrier.ensures

pub returns : goal.returns
returns c = (c.is_barrier_legal.ensures.illegal c.if-is_barrier_legal.false, c.is_barrier_legal.ensures.same)
