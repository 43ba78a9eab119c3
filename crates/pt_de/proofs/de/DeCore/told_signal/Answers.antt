use Rattle.std.proofs.Common.{[], ◌∷◌}
use Rattle.pt_de_reaction.specs.Signals.{signal_of}
use Rattle.pt_de.proofs.CoreLaws.{turn-now, room-now, told-keeps, told-now}
use Rattle.pt_de.proofs.de.DeCore.told_signal.Goals as goal

pub told_signal-requires-clause-there : goal.told_signal-requires-clause-there
told_signal-requires-clause-there c = let f = turn-now c.self.inside c.self.invariant c.args.self.now c.self.view_is c.args.child c.requires.asked in f.there

pub told_signal-requires-clause-running : goal.told_signal-requires-clause-running
told_signal-requires-clause-running c = let f = turn-now c.self.inside c.self.invariant c.args.self.now c.self.view_is c.args.child c.requires.asked in f.running

pub told_signal-requires-clause-over : goal.told_signal-requires-clause-over
told_signal-requires-clause-over c = let f = turn-now c.self.inside c.self.invariant c.args.self.now c.self.view_is c.args.child c.requires.asked in f.over

pub told_signal-requires-clause-room : goal.told_signal-requires-clause-room
told_signal-requires-clause-room c = room-now c.self.inside c.self.invariant c.args.self.now c.self.view_is c.args.child c.requires.room

pub invariant_of-self : goal.invariant_of-self
invariant_of-self c =
    told-keeps c.self.inside c.self.invariant c.args.self.now c.self.view_is c.args.child (signal_of c.args.given ∷ []) c.args.wake c.told_signal.new.self.state c.stage_after-self-inside.result c.requires.asked c.told_signal.ensures c.stage_after-self-inside.ensures

pub returns : goal.returns
returns c = λ need.
    told-now c.self.inside c.self.invariant c.args.self.now c.self.view_is c.args.child (signal_of c.args.given ∷ []) c.args.wake c.told_signal.new.self.state c.stage_after-self-inside.result c.requires.asked c.told_signal.ensures c.stage_after-self-inside.ensures
