use Rattle.std.proofs.Common.{length, arith}
use Rattle.pt_reaction.specs.Given.{known_on}
use Rattle.pt_de_reaction.proofs.DeliverLaws.{feed-there}
use Rattle.pt_de_reaction.proofs.ReactionLaws.{row-there, lists-long, room-keeps, room-is, staged-seen, shaped-now}
use Rattle.pt_de_reaction.proofs.reaction.Reaction.stage_early.Goals as goal

pub feeds-feeds-requires : goal.feeds-feeds-requires
feeds-feeds-requires c = row-there c.self.inside c.self.invariant c.args.self.now c.self.view_is c.args.child (omega (arith, c.requires))

pub stage_partial-requires : goal.stage_partial-requires
stage_partial-requires c = record { there = feed-there (length c.self.inside.net.plan.net.places) c.args.child c.self.inside.net.plan.net.sources c.feeds-feeds.result.now c.feeds-feeds.ensures.targets (length c.self.inside.channels.lists) (lists-long c.self.inside c.self.invariant c.args.self.now c.self.view_is) }

pub invariant_of-self : goal.invariant_of-self
invariant_of-self c = room-keeps c.self.inside c.self.invariant c.args.self.now c.self.view_is c.stage_partial.new.channels.lists c.stage_partial.ensures.lists

pub returns-clause-state : goal.returns-clause-state
returns-clause-state c = room-is c.self.inside c.self.invariant c.args.self.now c.self.view_is c.stage_partial.new.channels.lists c.stage_partial.ensures.lists

pub returns-clause-shaped : goal.returns-clause-shaped
returns-clause-shaped c = shaped-now c.self.inside c.self.invariant c.args.self.now c.self.view_is

pub returns-clause-staged : goal.returns-clause-staged
returns-clause-staged c = staged-seen c.stage_partial.result c.self.inside c.args.self.now c.self.view_is c.args.child c.feeds-feeds.result.now c.feeds-feeds.ensures.targets (known_on c.args.early.now) c.stage_partial.new.staged.items c.stage_partial.new.channels.spares c.stage_partial.ensures.staged c.stage_partial.ensures.room
