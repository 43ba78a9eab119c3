use Rattle.std.proofs.Common.{arith}
use Rattle.pt_reaction.proofs.ChannelLaws.{line-there, room-there, put-lists, put-spare, put-others}
use Rattle.pt_reaction.proofs.channels.Channels.put.Goals as goal

pub index_mut-requires : goal.index_mut-requires
index_mut-requires c = omega (arith, line-there c.self.inside.used c.self.inside.lines.items c.args.self.now c.self.view_is c.self.invariant c.args.c c.requires.there, c.self.inside.lines.ok.0)

pub put-requires : goal.put-requires
put-requires c = let a = room-there c.self.inside.used c.self.inside.lines.items c.args.self.now c.self.view_is c.self.invariant c.args.c c.index_mut.result.now c.requires.there c.index_mut.ensures.value c.requires.room in omega (arith, a, c.requires.room)

pub returns-clause-lists : goal.returns-clause-lists
returns-clause-lists c = put-lists c.self.inside.used c.self.inside.lines.items c.args.self.now c.self.view_is c.self.invariant c.args.c c.index_mut.result.now c.put.new.self c.args.token c.requires.there c.index_mut.ensures.value c.requires.room c.put.ensures.list

pub returns-clause-spare : goal.returns-clause-spare
returns-clause-spare c = put-spare c.self.inside.used c.self.inside.lines.items c.args.self.now c.self.view_is c.self.invariant c.args.c c.index_mut.result.now c.put.new.self c.args.token c.requires.there c.index_mut.ensures.value c.requires.room c.put.ensures.spare

pub returns-clause-others : goal.returns-clause-others
returns-clause-others c d z = put-others c.self.inside.used c.self.inside.lines.items c.args.self.now c.self.view_is c.self.invariant c.args.c c.put.new.self d z
