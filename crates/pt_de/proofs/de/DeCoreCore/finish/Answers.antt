use Rattle.pt_de.proofs.CoreLaws.{closed-now, still-keeps, end-keeps, end-is, own-is}
use Rattle.pt_de.proofs.de.DeCoreCore.finish.Goals as goal

pub hand_out-requires-clause-running : goal.hand_out-requires-clause-running
hand_out-requires-clause-running c = (closed-now c.self.inside c.self.invariant c.args.self.now c.self.view_is c.requires).0

pub hand_out-requires-clause-over : goal.hand_out-requires-clause-over
hand_out-requires-clause-over c = (closed-now c.self.inside c.self.invariant c.args.self.now c.self.view_is c.requires).1

pub invariant_of-self : goal.invariant_of-self
invariant_of-self c = still-keeps c.self.inside c.self.invariant c.args.self.now c.self.view_is c.hand_out.new.self.state c.in_err-outputs.ensures.kept

pub invariant_of-self-2 : goal.invariant_of-self-2
invariant_of-self-2 c = end-keeps c.self.inside c.self.invariant c.args.self.now c.self.view_is c.hand_out.new.self.state c.in_ok-outputs.ensures.state

pub returns-clause-core : goal.returns-clause-core
returns-clause-core c = end-is c.self.inside c.self.invariant c.args.self.now c.self.view_is c.hand_out.new.self.state c.in_ok-outputs.ensures.state

pub returns-clause-given : goal.returns-clause-given
returns-clause-given c = own-is c.self.inside c.self.invariant c.args.self.now c.self.view_is _ c.in_ok-outputs.ensures.given
