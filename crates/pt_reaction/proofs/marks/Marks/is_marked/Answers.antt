use Rattle.std.proofs.Common.{arith}
use Rattle.pt_reaction.proofs.MarkLaws.{there, mark-at}
use Rattle.pt_reaction.proofs.marks.Marks.is_marked.Goals as goal

pub index-requires : goal.index-requires
index-requires c = omega (arith, there c.self.inside.present c.self.inside.stamps.items c.args.self.now c.self.view_is c.args.number c.requires, c.self.inside.stamps.ok.0)

pub returns : goal.returns
returns c = mark-at c.self.inside.present c.self.inside.stamps.items c.args.self.now c.self.view_is c.args.number c.index.result.now c.requires c.index.ensures
