use Rattle.std.proofs.Common.{ap}
use Rattle.pt_de_reaction.specs.Reaction.{Flow}
use Rattle.pt_de_reaction.proofs.ReactionLaws.{lawful-now, start-needs, start-sound, start-is}
use Rattle.pt_de_reaction.proofs.reaction.Reaction.start.Goals as goal

pub wake-requires : goal.wake-requires
wake-requires c = start-needs c.self.inside c.self.invariant c.args.self.now c.self.view_is c.requires

pub invariant_of-self : goal.invariant_of-self
invariant_of-self c = start-sound c.self.inside c.self.invariant c.args.self.now c.self.view_is c.requires c.args.tag c.wake.new.self c.wake.ensures

pub returns-clause-state : goal.returns-clause-state
returns-clause-state c = start-is c.self.inside c.self.invariant c.args.self.now c.self.view_is c.requires c.args.tag c.wake.new.self c.wake.ensures

pub returns-clause-spares : goal.returns-clause-spares
returns-clause-spares c = ap (λ (f : Flow). f.spares) c.self.view_is

pub returns-clause-lawful : goal.returns-clause-lawful
returns-clause-lawful c = lawful-now c.self.inside c.self.invariant c.args.self.now c.self.view_is
