use Rattle.std.proofs.Common.{length, arith}
use Rattle.pt_de_reaction.proofs.DeliverLaws.{feed-there}
use Rattle.pt_de_reaction.proofs.ReactionLaws.{row-there, child-there, lists-long}
use Rattle.pt_de_reaction.proofs.SignalLaws.{room-seen}
use Rattle.pt_de_reaction.proofs.reaction.Reaction.has_room.Goals as goal

pub feeds-requires : goal.feeds-requires
feeds-requires c = row-there c.self.inside c.self.invariant c.args.self.now c.self.view_is c.args.child (omega (arith, c.requires))

pub are_empty-requires : goal.are_empty-requires
are_empty-requires c = feed-there (length c.self.inside.net.plan.net.places) c.args.child c.self.inside.net.plan.net.sources c.feeds.result.now c.feeds.ensures.targets (length c.self.inside.channels.lists) (lists-long c.self.inside c.self.invariant c.args.self.now c.self.view_is)

pub returns : goal.returns
returns c = room-seen c.self.inside c.args.self.now c.self.view_is c.args.child c.feeds.result.now c.feeds.ensures.targets (child-there c.self.inside c.self.invariant c.args.self.now c.self.view_is c.args.child c.requires) c.are_empty.ensures
