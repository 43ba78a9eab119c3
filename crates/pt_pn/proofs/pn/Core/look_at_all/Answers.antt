use Rattle.std.proofs.Common.{◌≡◌, ◌<◌, length, ap, sym, subst, ◌∙◌, arith, below_more}
use Rattle.pt_meaning.specs.Streams.{at}
use Rattle.pt_pn_laws.specs.State.{IsStopped, AllStopped, need_at}
use Rattle.pt_pn_work.specs.Core.{State}
use Rattle.pt_pn.specs.Core.{Comes}
use Rattle.pt_pn.proofs.pn.Core.look_at_all.Goals as goal

pub look_once-requires : goal.look_once-requires
look_once-requires c = record {
  there = let e : length c.loop-process.self.network.plan.net.places ≡ length c.args.self.now.network.plan.net.places = ap (λ (s : State). length s.network.plan.net.places) c.loop-process.invariant.same in let v : length c.self.inside.network.plan.net.places ≡ length c.args.self.now.network.plan.net.places = ap (λ (s : State). length s.network.plan.net.places) c.self.view_is in omega (arith, e, v, c.loop-process-test.true, c.processes-process-end.ensures.count);
  running = ap (λ (s : State). s.stage) c.loop-process.invariant.same ∙ c.requires;
}

pub returns-in-Some : goal.returns-in-Some
returns-in-Some c = subst (λ (s : State). Comes s c.in-Some.ask c.look_once.new.self) c.loop-process.invariant.same c.in-Some.ensures

pub loop-process-preserved : goal.loop-process-preserved
loop-process-preserved c = record {
  same = c.in-None.ensures.1 ∙ c.loop-process.invariant.same;
  stopped = below_more _ _ c.loop-process.invariant.stopped (subst (λ (s : State). IsStopped s c.loop-process.process (at s.halfway.puts c.loop-process.process) (need_at s c.loop-process.process)) c.loop-process.invariant.same c.in-None.ensures.0);
}

pub stopped-requires : goal.stopped-requires
stopped-requires c = record {
  running = ap (λ (s : State). s.stage) c.loop-process.invariant.same ∙ c.requires;
  stopped = subst (λ (s : State). AllStopped s) (sym c.loop-process.invariant.same) (λ i h. c.loop-process.invariant.stopped i (let l : i < length c.args.self.now.network.plan.net.places = h in let v : length c.self.inside.network.plan.net.places ≡ length c.args.self.now.network.plan.net.places = ap (λ (s : State). length s.network.plan.net.places) c.self.view_is in omega (arith, l, v, c.loop-process-test.false, c.processes-process-end.ensures.count)));
}

pub returns : goal.returns
returns c = subst (λ (s : State). Comes s c.stopped.result c.stopped.new.self) c.loop-process.invariant.same c.stopped.ensures
