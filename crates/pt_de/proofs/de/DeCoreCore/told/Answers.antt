use Rattle.pt_de.proofs.CoreLaws.{turn-now, still-keeps, still-is, told-keeps, told-now}
use Rattle.pt_de.proofs.de.DeCoreCore.told.Goals as goal

pub told-requires-clause-there : goal.told-requires-clause-there
told-requires-clause-there c = let f = turn-now c.self.inside c.self.invariant c.args.self.now c.self.view_is c.args.child c.requires.asked in f.there

pub told-requires-clause-running : goal.told-requires-clause-running
told-requires-clause-running c = let f = turn-now c.self.inside c.self.invariant c.args.self.now c.self.view_is c.args.child c.requires.asked in f.running

pub told-requires-clause-over : goal.told-requires-clause-over
told-requires-clause-over c = let f = turn-now c.self.inside c.self.invariant c.args.self.now c.self.view_is c.args.child c.requires.asked in f.over

pub invariant_of-self : goal.invariant_of-self
invariant_of-self c = still-keeps c.self.inside c.self.invariant c.args.self.now c.self.view_is c.told.new.self.state c.in_err-told.ensures.kept

pub invariant_of-self-2 : goal.invariant_of-self-2
invariant_of-self-2 c = told-keeps c.self.inside c.self.invariant c.args.self.now c.self.view_is c.args.child c.args.outputs c.args.wake c.told.new.self.state c.stage_after-self-inside.result c.requires.asked c.in_ok-told.ensures.told c.stage_after-self-inside.ensures
