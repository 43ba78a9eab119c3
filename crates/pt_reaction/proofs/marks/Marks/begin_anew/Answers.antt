use Rattle.std.proofs.Common.{length}
use Rattle.pt_reaction.proofs.MarkLaws.{mark-zeros, zero-stamps}
use Rattle.pt_reaction.proofs.marks.Marks.begin_anew.Goals as goal

pub invariant_of-self : goal.invariant_of-self
invariant_of-self c = zero-stamps (length c.self.inside.stamps.items) c.restart.new.stamps.items c.restart.ensures

pub returns : goal.returns
returns c = mark-zeros c.self.inside.present c.self.inside.stamps.items c.args.self.now c.self.view_is c.restart.new.stamps.items c.restart.ensures
