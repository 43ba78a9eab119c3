use Rattle.pt_de.proofs.CoreLaws.{needs-one}
use Rattle.pt_de.proofs.de.DeCoreCore.need.Goals as goal

pub returns : goal.returns
returns c = needs-one c.self.inside c.self.invariant c.args.self.now c.self.view_is _ c.counts.ensures
