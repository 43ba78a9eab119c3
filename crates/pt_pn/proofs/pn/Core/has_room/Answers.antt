use Rattle.std.proofs.lemmas.List.{get_or_read}
use Rattle.pt_pn.proofs.StepLaws.{channel-there, capacity-there, room-past, room-within}
use Rattle.pt_pn.proofs.pn.Core.has_room.Goals as goal

pub returns-then-channel-inner : goal.returns-then-channel-inner
returns-then-channel-inner c = room-past c.self.inside c.self.invariant c.args.self.now c.self.view_is c.args.channel c.inner.result c.inner.ensures c.if-channel-inner.true

pub len-requires : goal.len-requires
len-requires c = channel-there c.self.inside c.self.invariant c.args.self.now c.self.view_is c.args.process c.args.channel c.requires

pub returns : goal.returns
returns c =
    room-within c.self.inside c.self.invariant c.args.self.now c.self.view_is c.args.channel c.inner.result c.len.result c.index.result.now c.inner.ensures c.if-channel-inner.false c.len.ensures
    (get_or_read c.self.inside.capacity.items c.args.channel c.index.result.now (capacity-there c.self.inside c.self.invariant c.args.self.now c.self.view_is c.args.process c.args.channel c.requires) c.index.ensures 0)
