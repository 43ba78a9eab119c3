use Rattle.pt_reaction.proofs.MarkLaws.{mark-none, next-stamps}
use Rattle.pt_reaction.proofs.marks.Marks.clear.Goals as goal

pub invariant_of-self : goal.invariant_of-self
invariant_of-self c = next-stamps c.self.inside.present c.self.inside.stamps.items c.self.invariant

pub returns : goal.returns
returns c = mark-none c.self.inside.present c.self.inside.stamps.items c.args.self.now c.self.view_is c.self.invariant
