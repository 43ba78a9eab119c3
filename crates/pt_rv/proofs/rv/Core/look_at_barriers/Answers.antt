use Rattle.std.proofs.Common.{◌≡◌, ◌<◌, length, ap, sym, subst, ◌∙◌, arith, below_more}
use Rattle.pt_meaning.specs.Log.{Barrier}
use Rattle.pt_rv_laws.specs.State.{AllRest, IsOver}
use Rattle.pt_rv_laws.specs.RvActs.{State}
use Rattle.pt_rv_work.specs.Seen.{IsIllegal}
use Rattle.pt_rv.specs.Core.{Comes, stage_of}
use Rattle.pt_rv.proofs.CoreLaws.{is-over}
use Rattle.pt_rv.proofs.rv.Core.look_at_barriers.Goals as goal

pub look_at_barrier-requires : goal.look_at_barrier-requires
look_at_barrier-requires c = record {
  there = let e : length c.loop-barrier.self.processes.plan.net.places ≡ length c.args.self.now.processes.plan.net.places = ap (λ (s : State). length s.processes.plan.net.places) c.loop-barrier.invariant.same in let v : length c.self.inside.plan.plan.net.places ≡ length c.args.self.now.processes.plan.net.places = ap (λ (s : State). length s.processes.plan.net.places) c.self.view_is in omega (arith, e, v, c.loop-barrier-test.true, c.processes-barrier-end.ensures.count);
  running = ap (λ (s : State). s.stage) c.loop-barrier.invariant.same ∙ c.requires.running;
  rests = subst (λ (s : State). AllRest s) (sym c.loop-barrier.invariant.same) c.requires.rests;
}

pub returns-in-Some : goal.returns-in-Some
returns-in-Some c = subst (λ (s : State). Comes s c.in-Some.answer c.look_at_barrier.new.self) c.loop-barrier.invariant.same c.in-Some.ensures

pub loop-barrier-preserved : goal.loop-barrier-preserved
loop-barrier-preserved c = record {
  same = c.in-None.ensures.1 ∙ c.loop-barrier.invariant.same;
  illegal = below_more _ _ c.loop-barrier.invariant.illegal (subst (λ (s : State). IsIllegal s (Barrier c.loop-barrier.barrier)) c.loop-barrier.invariant.same c.in-None.ensures.0);
}

pub end-requires : goal.end-requires
end-requires c = record {
  running = ap (λ (s : State). s.stage) c.loop-barrier.invariant.same ∙ c.requires.running;
  over = subst (λ (s : State). IsOver s) (sym c.loop-barrier.invariant.same)
      (is-over c.self.inside.plan c.self.inside.parties c.self.inside.met.list c.self.inside.tag (stage_of c.self.inside.stage) c.args.self.now c.self.view_is c.self.invariant.kept.fit c.requires.rests c.requires.channels
      (λ k h. c.loop-barrier.invariant.illegal k (let l : k < length c.args.self.now.processes.plan.net.places = h in let v : length c.self.inside.plan.plan.net.places ≡ length c.args.self.now.processes.plan.net.places = ap (λ (s : State). length s.processes.plan.net.places) c.self.view_is in omega (arith, l, v, c.loop-barrier-test.false, c.processes-barrier-end.ensures.count))));
}

pub returns : goal.returns
returns c = subst (λ (s : State). Comes s c.end.result c.end.new.self) c.loop-barrier.invariant.same c.end.ensures
