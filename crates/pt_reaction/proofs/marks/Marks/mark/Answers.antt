use Rattle.std.proofs.Common.{arith}
use Rattle.pt_reaction.proofs.MarkLaws.{there, mark-set, set-stamps}
use Rattle.pt_reaction.proofs.marks.Marks.mark.Goals as goal

pub index_mut-requires : goal.index_mut-requires
index_mut-requires c = omega (arith, there c.self.inside.present c.self.inside.stamps.items c.args.self.now c.self.view_is c.args.number c.requires, c.self.inside.stamps.ok.0)

pub invariant_of-self : goal.invariant_of-self
invariant_of-self c = set-stamps c.self.inside.present c.self.inside.stamps.items c.args.number c.self.invariant

pub returns : goal.returns
returns c = mark-set c.self.inside.present c.self.inside.stamps.items c.args.self.now c.self.view_is c.args.number
