use Rattle.std.proofs.Common.{arith}
use Rattle.pt_de_parts.proofs.NetLaws.{first-there, first-is}
use Rattle.pt_de_parts.proofs.net.Net.first.Goals as goal

pub index-requires : goal.index-requires
index-requires c = omega (arith, first-there c.self.inside c.self.invariant c.args.self.now c.self.view_is c.args.child c.requires, c.self.inside.offsets.ok.0)

pub returns : goal.returns
returns c = first-is c.self.inside c.self.invariant c.args.self.now c.self.view_is c.args.child c.index.result.now c.requires c.index.ensures
