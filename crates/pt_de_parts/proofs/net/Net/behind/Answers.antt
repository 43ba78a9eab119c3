use Rattle.std.proofs.Common.{arith}
use Rattle.pt_de_parts.proofs.NetLaws.{child-there, behind-there, behind-is}
use Rattle.pt_de_parts.proofs.net.Net.behind.Goals as goal

pub overflow_add-child : goal.overflow_add-child
overflow_add-child c = let l = child-there c.self.inside c.self.invariant c.args.self.now c.self.view_is c.args.child c.requires in let f = c.self.invariant.few in omega (arith, l, f)

pub index-requires : goal.index-requires
index-requires c = omega (arith, behind-there c.self.inside c.self.invariant c.args.self.now c.self.view_is c.args.child c.requires, c.self.inside.offsets.ok.0)

pub returns : goal.returns
returns c = behind-is c.self.inside c.self.invariant c.args.self.now c.self.view_is c.args.child c.index.result.now c.requires c.index.ensures
