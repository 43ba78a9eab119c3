use Rattle.pt_pn.proofs.MarkLaws.{all-settled}
use Rattle.pt_pn.proofs.marks.Marks.are_settled.Goals as goal

pub returns : goal.returns
returns c e = all-settled c.self.inside.of.items c.args.self.now c.self.view_is c.self.inside.awake c.self.invariant.0 e
