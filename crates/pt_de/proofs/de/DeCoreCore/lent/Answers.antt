use Rattle.pt_de.proofs.CoreLaws.{lent-is}
use Rattle.pt_de.proofs.de.DeCoreCore.lent.Goals as goal

pub returns : goal.returns
returns c = lent-is c.self.inside c.self.invariant c.args.self.now c.self.view_is c.lent.result c.requires c.lent.ensures
