use Rattle.std.proofs.Common.{ap, arith}
use Rattle.pt_de_reaction.specs.Reaction.{Flow}
use Rattle.pt_de_reaction.proofs.ReactionLaws.{child-there, wakes-long, wake-keeps, wake-is, shaped-now}
use Rattle.pt_de_reaction.proofs.reaction.Reaction.set_wake.Goals as goal

pub set_wake-requires : goal.set_wake-requires
set_wake-requires c = omega (arith, child-there c.self.inside c.self.invariant c.args.self.now c.self.view_is c.args.child c.requires.there, wakes-long c.self.inside c.self.invariant c.args.self.now c.self.view_is)

pub invariant_of-self : goal.invariant_of-self
invariant_of-self c = wake-keeps c.self.inside c.self.invariant c.args.self.now c.self.view_is c.requires.running c.args.child c.args.wake c.requires.over c.set_wake.new.self c.set_wake.ensures

pub returns-clause-state : goal.returns-clause-state
returns-clause-state c = wake-is c.self.inside c.self.invariant c.args.self.now c.self.view_is c.args.child c.args.wake c.set_wake.new.self c.set_wake.ensures

pub returns-clause-spares : goal.returns-clause-spares
returns-clause-spares c = ap (λ (f : Flow). f.spares) c.self.view_is

pub returns-clause-shaped : goal.returns-clause-shaped
returns-clause-shaped c = shaped-now c.self.inside c.self.invariant c.args.self.now c.self.view_is
