use Rattle.pt_reaction.proofs.ChannelLaws.{cleared-lists}
use Rattle.pt_reaction.proofs.channels.Channels.clear.Goals as goal

pub returns : goal.returns
returns c = cleared-lists c.self.inside.used c.self.inside.lines.items c.args.self.now c.self.view_is c.self.invariant c.clear.new.self c.clear.ensures
