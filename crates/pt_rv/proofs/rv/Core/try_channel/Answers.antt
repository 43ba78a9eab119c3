use Rattle.std.proofs.Common.{length, ap, arith}
use Rattle.pt_meaning.specs.Log.{Channel}
use Rattle.pt_rv_laws.specs.RvActs.{State}
use Rattle.pt_rv.proofs.CoreLaws.{looks-come}
use Rattle.pt_rv.proofs.rv.Core.try_channel.Goals as goal

pub look_at_channel-requires : goal.look_at_channel-requires
look_at_channel-requires c = record {
  there = let v = ap (λ (s : State). length s.processes.plan.net.sources) c.self.view_is in omega (arith, v, c.if-channel-channels.false, c.channels.ensures.count);
  running = c.requires.running;
  rests = c.requires.rests;
}

pub returns : goal.returns
returns c = looks-come c.args.self.now (Channel c.args.channel) c.look_at_channel.result c.look_at_channel.new.self c.look_at_channel.ensures
