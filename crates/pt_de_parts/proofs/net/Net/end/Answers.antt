use Rattle.std.proofs.Common.{arith}
use Rattle.pt_de_parts.proofs.NetLaws.{end-there, end-seen}
use Rattle.pt_de_parts.proofs.net.Net.end.Goals as goal

pub index-requires : goal.index-requires
index-requires c = omega (arith, end-there c.self.inside c.self.invariant c.args.self.now c.self.view_is c.len.result c.len.ensures, c.self.inside.offsets.ok.0)

pub returns : goal.returns
returns c = end-seen c.self.inside c.self.invariant c.args.self.now c.self.view_is c.len.result c.index.result.now c.len.ensures c.index.ensures
