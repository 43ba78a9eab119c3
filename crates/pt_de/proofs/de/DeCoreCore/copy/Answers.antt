use Rattle.pt_de.proofs.CoreLaws.{copy-keeps, copy-is}
use Rattle.pt_de.proofs.de.DeCoreCore.copy.Goals as goal

pub invariant_of-result : goal.invariant_of-result
invariant_of-result c = copy-keeps c.self.inside c.self.invariant c.args.self.now c.self.view_is c.in_ok-reaction.reaction.state c.in_ok-rows.rows c.in_ok-need.need c.in_ok-reaction.ensures c.in_ok-rows.ensures c.in_ok-need.ensures

pub returns : goal.returns
returns c = copy-is c.self.inside c.self.invariant c.args.self.now c.self.view_is c.in_ok-reaction.reaction.state c.in_ok-rows.rows c.in_ok-reaction.ensures c.in_ok-rows.ensures
