use Rattle.std.proofs.Common.{arith, sym, ◌∙◌}
use Rattle.pt_reaction.proofs.ChannelLaws.{line-there, used-there, used-list, unused-list}
use Rattle.pt_reaction.proofs.channels.Channels.list.Goals as goal

pub is_marked-requires : goal.is_marked-requires
is_marked-requires c = used-there c.self.inside.used c.self.inside.lines.items c.args.self.now c.self.view_is c.self.invariant c.args.c c.requires

pub index-requires : goal.index-requires
index-requires c = omega (arith, line-there c.self.inside.used c.self.inside.lines.items c.args.self.now c.self.view_is c.self.invariant c.args.c c.requires, c.self.inside.lines.ok.0)

pub returns-then-not-is_marked : goal.returns-then-not-is_marked
returns-then-not-is_marked c = sym (unused-list c.self.inside.used c.self.inside.lines.items c.args.self.now c.self.view_is c.self.invariant c.args.c c.requires (sym c.is_marked.ensures ∙ c.if-not-is_marked.true))

pub returns : goal.returns
returns c = c.as_slice.ensures ∙ sym (used-list c.self.inside.used c.self.inside.lines.items c.args.self.now c.self.view_is c.self.invariant c.args.c c.index.result.now c.requires c.index.ensures (sym c.is_marked.ensures ∙ c.if-not-is_marked.false))
