use Rattle.pt_de.proofs.CoreLaws.{asked-there, room-seen}
use Rattle.pt_de.proofs.de.DeCore.has_room.Goals as goal

pub has_room-requires : goal.has_room-requires
has_room-requires c = asked-there c.self.inside c.self.invariant c.args.self.now c.self.view_is c.args.child c.requires

pub returns : goal.returns
returns c = room-seen c.self.inside c.self.invariant c.args.self.now c.self.view_is c.args.child c.has_room.ensures
