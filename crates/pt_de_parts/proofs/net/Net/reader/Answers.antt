use Rattle.std.proofs.Common.{arith}
use Rattle.pt_de_parts.proofs.NetLaws.{reader-at, reader-seen}
use Rattle.pt_de_parts.proofs.net.Net.reader.Goals as goal

pub index-requires : goal.index-requires
index-requires c = omega (arith, reader-at c.self.inside c.self.invariant c.args.self.now c.self.view_is c.args.channel c.requires, c.self.inside.readers.ok.0)

pub returns : goal.returns
returns c = reader-seen c.self.inside c.self.invariant c.args.self.now c.self.view_is c.args.channel c.index.result.now c.requires c.index.ensures
