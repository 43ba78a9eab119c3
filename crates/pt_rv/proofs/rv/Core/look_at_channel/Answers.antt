use Rattle.std.proofs.Common.{length, ap, sym, subst, ◌∙◌, arith}
use Rattle.pt_meaning.specs.Log.{Channel}
use Rattle.pt_rv_laws.specs.State.{AllRest, IsLegal}
use Rattle.pt_rv_laws.specs.RvActs.{State}
use Rattle.pt_rv.specs.Core.{Comes}
use Rattle.pt_rv.proofs.rv.Core.look_at_channel.Goals as goal

pub is_channel_legal-requires : goal.is_channel_legal-requires
is_channel_legal-requires c = record { there = c.requires.there; running = c.requires.running }

pub meet_on-requires : goal.meet_on-requires
meet_on-requires c = record {
  there = let e = ap (λ (s : State). length s.processes.plan.net.sources) c.is_channel_legal.ensures.same in omega (arith, e, c.requires.there);
  running = ap (λ (s : State). s.stage) c.is_channel_legal.ensures.same ∙ c.requires.running;
  rests = subst (λ (s : State). AllRest s) (sym c.is_channel_legal.ensures.same) c.requires.rests;
  legal = subst (λ (s : State). IsLegal s (Channel c.args.channel)) (sym c.is_channel_legal.ensures.same) (c.is_channel_legal.ensures.legal c.if-is_channel_legal.true);
}

pub returns-then-is_channel_legal : goal.returns-then-is_channel_legal
returns-then-is_channel_legal c = subst (λ (s : State). Comes s c.meet_on.result c.meet_on.new.self) c.is_channel_legal.ensures.same c.meet_on.ensures

pub returns : goal.returns
returns c = (c.is_channel_legal.ensures.illegal c.if-is_channel_legal.false, c.is_channel_legal.ensures.same)
