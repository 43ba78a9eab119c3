use Rattle.pt_pn.proofs.MarkLaws.{all-resting}
use Rattle.pt_pn.proofs.marks.Marks.are_resting.Goals as goal

pub returns : goal.returns
returns c e = all-resting c.self.inside.of.items c.args.self.now c.self.view_is c.self.inside.not_resting c.self.invariant.1 e
