use Rattle.std.proofs.Common.{◌≡◌, ◌<◌, length, ap, sym, subst, ◌∙◌, arith, below_more}
use Rattle.pt_meaning.specs.Log.{Channel}
use Rattle.pt_rv_laws.specs.State.{AllRest}
use Rattle.pt_rv_laws.specs.RvActs.{State}
use Rattle.pt_rv_work.specs.Seen.{IsIllegal}
use Rattle.pt_rv.specs.Core.{Comes, NoneOnChannels}
use Rattle.pt_rv.proofs.rv.Core.look_at_all.Goals as goal

pub look_at_channel-requires : goal.look_at_channel-requires
look_at_channel-requires c = record {
  there = let e : length c.loop-channel.self.processes.plan.net.sources ≡ length c.args.self.now.processes.plan.net.sources = ap (λ (s : State). length s.processes.plan.net.sources) c.loop-channel.invariant.same in let v : length c.self.inside.plan.plan.net.sources ≡ length c.args.self.now.processes.plan.net.sources = ap (λ (s : State). length s.processes.plan.net.sources) c.self.view_is in omega (arith, e, v, c.loop-channel-test.true, c.channels-channel-end.ensures.count);
  running = ap (λ (s : State). s.stage) c.loop-channel.invariant.same ∙ c.requires.running;
  rests = subst (λ (s : State). AllRest s) (sym c.loop-channel.invariant.same) c.requires.rests;
}

pub returns-in-Some : goal.returns-in-Some
returns-in-Some c = subst (λ (s : State). Comes s c.in-Some.answer c.look_at_channel.new.self) c.loop-channel.invariant.same c.in-Some.ensures

pub loop-channel-preserved : goal.loop-channel-preserved
loop-channel-preserved c = record {
  same = c.in-None.ensures.1 ∙ c.loop-channel.invariant.same;
  illegal = below_more _ _ c.loop-channel.invariant.illegal (subst (λ (s : State). IsIllegal s (Channel c.loop-channel.channel)) c.loop-channel.invariant.same c.in-None.ensures.0);
}

pub look_at_barriers-requires : goal.look_at_barriers-requires
look_at_barriers-requires c = record {
  running = ap (λ (s : State). s.stage) c.loop-channel.invariant.same ∙ c.requires.running;
  rests = subst (λ (s : State). AllRest s) (sym c.loop-channel.invariant.same) c.requires.rests;
  channels = subst (λ (s : State). NoneOnChannels s) (sym c.loop-channel.invariant.same) (λ k h. c.loop-channel.invariant.illegal k (let l : k < length c.args.self.now.processes.plan.net.sources = h in let v : length c.self.inside.plan.plan.net.sources ≡ length c.args.self.now.processes.plan.net.sources = ap (λ (s : State). length s.processes.plan.net.sources) c.self.view_is in omega (arith, l, v, c.loop-channel-test.false, c.channels-channel-end.ensures.count)));
}

pub returns : goal.returns
returns c = subst (λ (s : State). Comes s c.look_at_barriers.result c.look_at_barriers.new.self) c.loop-channel.invariant.same c.look_at_barriers.ensures
