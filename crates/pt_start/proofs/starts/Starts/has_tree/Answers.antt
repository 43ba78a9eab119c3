use Rattle.std.proofs.Common.{◌≡◌, arith}
use Rattle.pt_start.proofs.Made.{values-below, read-at}
use Rattle.pt_start.proofs.starts.Starts.has_tree.Goals as goal

pub index-requires : goal.index-requires
index-requires c = omega (arith, values-below c.args.self.now c.args.number c.requires.ready c.requires.actor, c.args.self.now.values.now.entities.ok.0)
