use Rattle.std.proofs.Common.{◌∙◌, arith, length-set}
use Rattle.pt_sr.proofs.TickLaws.{child-there, listened-is}
use Rattle.pt_sr.proofs.tick.Tick.listen.Goals as goal

pub index_mut-requires : goal.index_mut-requires
index_mut-requires c = omega (arith, child-there c.self.inside c.args.self.now c.args.child c.self.view_is c.requires, c.self.invariant.heard, c.self.inside.heard.ok.0)

pub invariant_of-self : goal.invariant_of-self
invariant_of-self c = record {
  lawful = c.self.invariant.lawful;
  offsets = c.self.invariant.offsets;
  fed = c.self.invariant.fed;
  signals = c.self.invariant.signals;
  fired = c.self.invariant.fired;
  heard = length-set c.self.inside.heard.items c.args.child _ ∙ c.self.invariant.heard;
}

pub returns : goal.returns
returns c = listened-is c.self.inside c.args.child c.unknown_of.result c.args.self.now c.self.view_is c.unknown_of.ensures
