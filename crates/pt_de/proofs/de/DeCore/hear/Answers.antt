use Rattle.pt_de.proofs.CoreLaws.{listening-now, still-keeps, heard-keeps, heard-is}
use Rattle.pt_de.proofs.de.DeCore.hear.Goals as goal

pub hears-requires-clause-there : goal.hears-requires-clause-there
hears-requires-clause-there c = let f = listening-now c.self.inside c.self.invariant c.args.self.now c.self.view_is c.args.child c.requires in f.there

pub hears-requires-clause-running : goal.hears-requires-clause-running
hears-requires-clause-running c = let f = listening-now c.self.inside c.self.invariant c.args.self.now c.self.view_is c.args.child c.requires in f.running

pub hears-requires-clause-waits : goal.hears-requires-clause-waits
hears-requires-clause-waits c = let f = listening-now c.self.inside c.self.invariant c.args.self.now c.self.view_is c.args.child c.requires in f.waits

pub invariant_of-self : goal.invariant_of-self
invariant_of-self c = still-keeps c.self.inside c.self.invariant c.args.self.now c.self.view_is c.hears.new.self.state c.in_err-hears.ensures.kept

pub invariant_of-self-2 : goal.invariant_of-self-2
invariant_of-self-2 c = heard-keeps c.self.inside c.self.invariant c.args.self.now c.self.view_is c.args.child c.args.early.now c.hears.new.self.state c.in_ok-hears.ensures.heard

pub returns-clause-heard : goal.returns-clause-heard
returns-clause-heard c = heard-is c.self.inside c.self.invariant c.args.self.now c.self.view_is c.args.child c.args.early.now c.hears.new.self.state c.in_ok-hears.ensures.heard
