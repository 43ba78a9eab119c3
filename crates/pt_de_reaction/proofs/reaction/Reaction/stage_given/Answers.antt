use Rattle.std.proofs.Common.{length, arith}
use Rattle.pt_meaning.specs.Streams.{at}
use Rattle.pt_de_reaction.proofs.DeliverLaws.{feed-there}
use Rattle.pt_de_reaction.proofs.ReactionLaws.{row-there, lists-long, room-keeps, room-is, staged-seen, shaped-now}
use Rattle.pt_de_reaction.proofs.reaction.Reaction.stage_given.Goals as goal

pub feeds-feeds-requires : goal.feeds-feeds-requires
feeds-feeds-requires c = row-there c.self.inside c.self.invariant c.args.self.now c.self.view_is c.args.child (omega (arith, c.requires))

pub stage_outputs-requires-clause-there : goal.stage_outputs-requires-clause-there
stage_outputs-requires-clause-there c = feed-there (length c.self.inside.net.plan.net.places) c.args.child c.self.inside.net.plan.net.sources c.feeds-feeds.result.now c.feeds-feeds.ensures.targets (length c.self.inside.channels.lists) (lists-long c.self.inside c.self.invariant c.args.self.now c.self.view_is)

pub invariant_of-self : goal.invariant_of-self
invariant_of-self c = room-keeps c.self.inside c.self.invariant c.args.self.now c.self.view_is c.stage_outputs.new.channels.lists c.stage_outputs.ensures.lists

pub returns-clause-state : goal.returns-clause-state
returns-clause-state c = room-is c.self.inside c.self.invariant c.args.self.now c.self.view_is c.stage_outputs.new.channels.lists c.stage_outputs.ensures.lists

pub returns-clause-shaped : goal.returns-clause-shaped
returns-clause-shaped c = shaped-now c.self.inside c.self.invariant c.args.self.now c.self.view_is

pub returns-clause-staged : goal.returns-clause-staged
returns-clause-staged c = staged-seen c.stage_outputs.result c.self.inside c.args.self.now c.self.view_is c.args.child c.feeds-feeds.result.now c.feeds-feeds.ensures.targets (at c.args.outputs) c.stage_outputs.new.staged.items c.stage_outputs.new.channels.spares c.stage_outputs.ensures.staged c.stage_outputs.ensures.room
