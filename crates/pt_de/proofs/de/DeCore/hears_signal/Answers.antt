use Rattle.std.proofs.Common.{[], ◌∷◌}
use Rattle.pt_meaning.specs.Machine.{Known}
use Rattle.pt_de_reaction.specs.Signals.{signal_of}
use Rattle.pt_de.proofs.CoreLaws.{listening-now, room-now, heard-keeps, heard-is}
use Rattle.pt_de.proofs.de.DeCore.hears_signal.Goals as goal

pub hears_signal-requires-clause-there : goal.hears_signal-requires-clause-there
hears_signal-requires-clause-there c = let f = listening-now c.self.inside c.self.invariant c.args.self.now c.self.view_is c.args.child c.requires.asked in f.there

pub hears_signal-requires-clause-running : goal.hears_signal-requires-clause-running
hears_signal-requires-clause-running c = let f = listening-now c.self.inside c.self.invariant c.args.self.now c.self.view_is c.args.child c.requires.asked in f.running

pub hears_signal-requires-clause-waits : goal.hears_signal-requires-clause-waits
hears_signal-requires-clause-waits c = let f = listening-now c.self.inside c.self.invariant c.args.self.now c.self.view_is c.args.child c.requires.asked in f.waits

pub hears_signal-requires-clause-room : goal.hears_signal-requires-clause-room
hears_signal-requires-clause-room c = room-now c.self.inside c.self.invariant c.args.self.now c.self.view_is c.args.child c.requires.room

pub invariant_of-self : goal.invariant_of-self
invariant_of-self c = heard-keeps c.self.inside c.self.invariant c.args.self.now c.self.view_is c.args.child (Known (signal_of c.args.early) ∷ []) c.hears_signal.new.self.state c.hears_signal.ensures

pub returns : goal.returns
returns c = heard-is c.self.inside c.self.invariant c.args.self.now c.self.view_is c.args.child (Known (signal_of c.args.early) ∷ []) c.hears_signal.new.self.state c.hears_signal.ensures
