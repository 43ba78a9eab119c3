use Rattle.std.proofs.Common.{length, arith}
use Rattle.pt_meaning.specs.Streams.{at}
use Rattle.pt_de_reaction.proofs.DeliverLaws.{feed-there}
use Rattle.pt_de_reaction.proofs.ReactionLaws.{lists-long, room-keeps, room-is, staged-own-seen, lawful-now}
use Rattle.pt_de_reaction.proofs.reaction.Reaction.stage_own.Goals as goal

pub feeds-feeds-requires : goal.feeds-feeds-requires
feeds-feeds-requires c = omega (arith, c.children.ensures.count)

pub stage_inputs-requires : goal.stage_inputs-requires
stage_inputs-requires c = record { there = feed-there (length c.self.inside.net.plan.net.places) c.children.result c.self.inside.net.plan.net.sources c.feeds-feeds.result.now c.feeds-feeds.ensures.targets (length c.self.inside.channels.lists) (lists-long c.self.inside c.self.invariant c.args.self.now c.self.view_is) }

pub invariant_of-self : goal.invariant_of-self
invariant_of-self c = room-keeps c.self.inside c.self.invariant c.args.self.now c.self.view_is c.stage_inputs.new.channels.lists c.stage_inputs.ensures.lists

pub returns-clause-state : goal.returns-clause-state
returns-clause-state c = room-is c.self.inside c.self.invariant c.args.self.now c.self.view_is c.stage_inputs.new.channels.lists c.stage_inputs.ensures.lists

pub returns-clause-lawful : goal.returns-clause-lawful
returns-clause-lawful c = lawful-now c.self.inside c.self.invariant c.args.self.now c.self.view_is

pub returns-clause-staged : goal.returns-clause-staged
returns-clause-staged c = staged-own-seen c.stage_inputs.result c.self.inside c.args.self.now c.self.view_is c.children.result c.feeds-feeds.result.now c.feeds-feeds.ensures.targets (at c.args.inputs.now) c.stage_inputs.new.staged.items c.stage_inputs.new.channels.spares c.children.ensures.count c.stage_inputs.ensures.staged c.stage_inputs.ensures.room
