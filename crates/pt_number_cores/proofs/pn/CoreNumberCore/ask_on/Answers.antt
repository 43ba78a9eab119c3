use Rattle.pt_number_cores.proofs.Coming.{pn-comes}
use Rattle.pt_number_cores.proofs.pn.CoreNumberCore.ask_on.Goals as goal

pub returns : goal.returns
returns c = pn-comes c.args.self.now c.ask_on.new.self c.ask_on.result c.ask_on.ensures
