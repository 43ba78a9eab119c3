use Rattle.pt_de.proofs.CoreLaws.{idle-now, wake-is}
use Rattle.pt_de.proofs.de.DeCoreCore.next.Goals as goal

pub least-requires : goal.least-requires
least-requires c = idle-now c.self.inside c.self.invariant c.args.self.now c.self.view_is c.requires

pub returns : goal.returns
returns c = wake-is c.self.inside c.self.invariant c.args.self.now c.self.view_is c.least.result c.least.ensures
