use Rattle.std.proofs.Common.{arith}
use Rattle.pt_reaction.proofs.ChannelLaws.{line-there, used-there, first-sound, first-lists}
use Rattle.pt_reaction.proofs.channels.Channels.put_first.Goals as goal

pub mark-requires : goal.mark-requires
mark-requires c = used-there c.self.inside.used c.self.inside.lines.items c.args.self.now c.self.view_is c.self.invariant c.args.c c.requires.there

pub index_mut-requires : goal.index_mut-requires
index_mut-requires c = omega (arith, line-there c.self.inside.used c.self.inside.lines.items c.args.self.now c.self.view_is c.self.invariant c.args.c c.requires.there, c.self.inside.lines.ok.0)

pub invariant_of-self : goal.invariant_of-self
invariant_of-self c = first-sound c.self.inside.used c.self.inside.lines.items c.args.self.now c.self.view_is c.self.invariant c.mark.new.self c.args.c c.put_first.new.self c.mark.ensures

pub returns : goal.returns
returns c = first-lists c.self.inside.used c.self.inside.lines.items c.args.self.now c.self.view_is c.self.invariant c.mark.new.self c.args.c c.put_first.new.self c.mark.ensures c.args.token c.put_first.ensures
