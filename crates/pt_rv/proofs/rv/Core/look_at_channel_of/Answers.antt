use Rattle.std.proofs.Common.{ap, sym, subst, ◌∙◌}
use Rattle.pt_rv_laws.specs.State.{AllRest}
use Rattle.pt_rv_laws.specs.RvActs.{State}
use Rattle.pt_rv.specs.Core.{MayCome}
use Rattle.pt_rv.proofs.rv.Core.look_at_channel_of.Goals as goal

pub try_channel-requires : goal.try_channel-requires
try_channel-requires c = record {
  running = ap (λ (s : State). s.stage) c.channel_of.ensures ∙ c.requires.running;
  rests = subst (λ (s : State). AllRest s) (sym c.channel_of.ensures) c.requires.rests;
}

pub returns-in-Some : goal.returns-in-Some
returns-in-Some c = subst (λ (s : State). MayCome s c.try_channel.result c.try_channel.new.self) c.channel_of.ensures c.try_channel.ensures

pub returns-in-None : goal.returns-in-None
returns-in-None c = c.channel_of.ensures
