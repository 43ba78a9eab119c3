use Rattle.std.proofs.Common.{◌≤◌, set, arith}
use Rattle.pt_reaction.specs.Channels.{spares_in, spare_at}
use Rattle.pt_reaction.proofs.ChannelLaws.{used-there, room-sound, room-lists, room-made, room-keeps, on-ok}
use Rattle.pt_reaction.proofs.channels.Channels.reserve.Goals as goal

pub refresh-requires-clause-there : goal.refresh-requires-clause-there
refresh-requires-clause-there c = used-there c.self.inside.used c.self.inside.lines.items c.args.self.now c.self.view_is c.self.invariant c.args.c c.requires

pub index_mut-requires : goal.index_mut-requires
index_mut-requires c =
    let a = used-there c.self.inside.used c.self.inside.lines.items c.args.self.now c.self.view_is c.self.invariant c.args.c c.requires in
    omega (arith, a, c.self.invariant, c.refresh.ensures.same, c.refresh.new.lines.ok.0)

pub invariant_of-self : goal.invariant_of-self
invariant_of-self c = room-sound c.self.inside.used c.self.inside.lines.items c.args.self.now c.self.view_is c.self.invariant c.refresh.new.used c.refresh.new.lines.items c.args.c c.index_mut.result.now c.reserve.new.self c.refresh.ensures.used c.refresh.ensures.same c.refresh.ensures.lists c.refresh.ensures.spares c.requires c.index_mut.ensures.value

pub returns-clause-lists : goal.returns-clause-lists
returns-clause-lists c = room-lists c.self.inside.used c.self.inside.lines.items c.args.self.now c.self.view_is c.self.invariant c.refresh.new.used c.refresh.new.lines.items c.args.c c.index_mut.result.now c.reserve.new.self c.refresh.ensures.used c.refresh.ensures.same c.refresh.ensures.lists c.refresh.ensures.spares c.requires c.index_mut.ensures.value c.reserve.ensures.list

pub returns-clause-room : goal.returns-clause-room
returns-clause-room c = on-ok c.reserve.result (c.args.more ≤ c.reserve.new.self.spare) (c.args.more ≤ spare_at (spares_in c.refresh.new.used (set c.refresh.new.lines.items c.args.c c.reserve.new.self)) c.args.c) (λ q. room-made c.self.inside.used c.self.inside.lines.items c.args.self.now c.self.view_is c.self.invariant c.refresh.new.used c.refresh.new.lines.items c.args.c c.index_mut.result.now c.reserve.new.self c.refresh.ensures.used c.refresh.ensures.same c.refresh.ensures.lists c.refresh.ensures.spares c.requires c.index_mut.ensures.value c.args.more q) c.reserve.ensures.room

pub returns-clause-keeps : goal.returns-clause-keeps
returns-clause-keeps c = room-keeps c.self.inside.used c.self.inside.lines.items c.args.self.now c.self.view_is c.self.invariant c.refresh.new.used c.refresh.new.lines.items c.args.c c.index_mut.result.now c.reserve.new.self c.refresh.ensures.used c.refresh.ensures.same c.refresh.ensures.lists c.refresh.ensures.spares c.requires c.index_mut.ensures.value c.reserve.ensures.keeps
