use Rattle.std.proofs.Common.{ap, ◌∙◌, arith}
use Rattle.pt_de_laws.specs.State.{Over}
use Rattle.pt_de_reaction.specs.Reaction.{Flow}
use Rattle.pt_de_reaction.proofs.ReactionLaws.{child-there, turns-long, wakes-long, lasts-long, turn-is, answer-keeps, answer-is, shaped-now}
use Rattle.pt_de_reaction.proofs.reaction.Reaction.note_answer.Goals as goal

pub answer-requires-clause-there : goal.answer-requires-clause-there
answer-requires-clause-there c = omega (arith, child-there c.self.inside c.self.invariant c.args.self.now c.self.view_is c.args.child c.requires.there, turns-long c.self.inside c.self.invariant c.args.self.now c.self.view_is)

pub answer-requires-clause-waits : goal.answer-requires-clause-waits
answer-requires-clause-waits c = turn-is c.self.inside c.self.invariant c.args.self.now c.self.view_is c.args.child Over ∙ c.requires.waits

pub remove-requires : goal.remove-requires
remove-requires c = omega (arith, child-there c.self.inside c.self.invariant c.args.self.now c.self.view_is c.args.child c.requires.there, wakes-long c.self.inside c.self.invariant c.args.self.now c.self.view_is)

pub insert-requires : goal.insert-requires
insert-requires c = omega (arith, child-there c.self.inside c.self.invariant c.args.self.now c.self.view_is c.args.child c.requires.there, lasts-long c.self.inside c.self.invariant c.args.self.now c.self.view_is)

pub invariant_of-self : goal.invariant_of-self
invariant_of-self c = answer-keeps c.self.inside c.self.invariant c.args.self.now c.self.view_is c.requires.running c.args.child c.answer.new.self c.remove.new.self c.insert.new.self c.answer.ensures c.remove.ensures c.insert.ensures

pub returns-clause-state : goal.returns-clause-state
returns-clause-state c = answer-is c.self.inside c.self.invariant c.args.self.now c.self.view_is c.args.child c.answer.new.self c.remove.new.self c.answer.ensures c.remove.ensures

pub returns-clause-spares : goal.returns-clause-spares
returns-clause-spares c = ap (λ (f : Flow). f.spares) c.self.view_is

pub returns-clause-shaped : goal.returns-clause-shaped
returns-clause-shaped c = shaped-now c.self.inside c.self.invariant c.args.self.now c.self.view_is
