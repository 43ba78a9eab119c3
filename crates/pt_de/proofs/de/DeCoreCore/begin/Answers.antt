use Rattle.pt_de.proofs.CoreLaws.{idle-now, still-keeps, begin-keeps, begin-is}
use Rattle.pt_de.proofs.de.DeCoreCore.begin.Goals as goal

pub begin-requires : goal.begin-requires
begin-requires c = idle-now c.self.inside c.self.invariant c.args.self.now c.self.view_is c.requires.idle

pub invariant_of-self : goal.invariant_of-self
invariant_of-self c = still-keeps c.self.inside c.self.invariant c.args.self.now c.self.view_is c.begin.new.self.state c.in_err-begin.ensures.kept

pub invariant_of-self-2 : goal.invariant_of-self-2
invariant_of-self-2 c = begin-keeps c.self.inside c.self.invariant c.args.self.now c.self.view_is c.args.tag c.args.inputs.now c.begin.new.self.state c.in_ok-begin.ensures.begun

pub returns-clause-begun : goal.returns-clause-begun
returns-clause-begun c = begin-is c.self.inside c.self.invariant c.args.self.now c.self.view_is c.args.tag c.args.inputs.now c.begin.new.self.state c.in_ok-begin.ensures.begun
