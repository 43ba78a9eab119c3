use Rattle.pt_de.proofs.CoreLaws.{still-keeps, reset-keeps, reset-is}
use Rattle.pt_de.proofs.de.DeCoreCore.reset.Goals as goal

pub invariant_of-self : goal.invariant_of-self
invariant_of-self c = still-keeps c.self.inside c.self.invariant c.args.self.now c.self.view_is c.reset.new.self.state c.in_err-reset.ensures.kept

pub invariant_of-self-2 : goal.invariant_of-self-2
invariant_of-self-2 c = reset-keeps c.self.inside c.self.invariant c.args.self.now c.self.view_is c.reset.new.self.state c.in_ok-reset.ensures.reset

pub returns-clause-reset : goal.returns-clause-reset
returns-clause-reset c = reset-is c.self.inside c.self.invariant c.args.self.now c.self.view_is c.reset.new.self.state c.in_ok-reset.ensures.reset
