use Rattle.std.proofs.Common.{arith, sym, ◌∙◌}
use Rattle.pt_reaction.proofs.ChannelLaws.{line-there, used-there, used-list, unused-list, taken-lists, nothing-taken}
use Rattle.pt_reaction.proofs.channels.Channels.take_list.Goals as goal

pub is_marked-requires : goal.is_marked-requires
is_marked-requires c = used-there c.self.inside.used c.self.inside.lines.items c.args.self.now c.self.view_is c.self.invariant c.args.c c.requires

pub index_mut-requires : goal.index_mut-requires
index_mut-requires c = omega (arith, line-there c.self.inside.used c.self.inside.lines.items c.args.self.now c.self.view_is c.self.invariant c.args.c c.requires, c.self.inside.lines.ok.0)

pub returns-then-not-is_marked-clause-taken : goal.returns-then-not-is_marked-clause-taken
returns-then-not-is_marked-clause-taken c = c.new.ensures ∙ sym (unused-list c.self.inside.used c.self.inside.lines.items c.args.self.now c.self.view_is c.self.invariant c.args.c c.requires (sym c.is_marked.ensures ∙ c.if-not-is_marked.true))

pub returns-then-not-is_marked-clause-left : goal.returns-then-not-is_marked-clause-left
returns-then-not-is_marked-clause-left c = nothing-taken c.self.inside.used c.self.inside.lines.items c.args.self.now c.self.view_is c.self.invariant c.args.c c.requires (sym c.is_marked.ensures ∙ c.if-not-is_marked.true)

pub returns-clause-taken : goal.returns-clause-taken
returns-clause-taken c = c.take.ensures.taken ∙ sym (used-list c.self.inside.used c.self.inside.lines.items c.args.self.now c.self.view_is c.self.invariant c.args.c c.index_mut.result.now c.requires c.index_mut.ensures.value (sym c.is_marked.ensures ∙ c.if-not-is_marked.false))

pub returns-clause-left : goal.returns-clause-left
returns-clause-left c = taken-lists c.self.inside.used c.self.inside.lines.items c.args.self.now c.self.view_is c.self.invariant c.args.c c.take.new.self (sym c.is_marked.ensures ∙ c.if-not-is_marked.false) c.take.ensures.left
