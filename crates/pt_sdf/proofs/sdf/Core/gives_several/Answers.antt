use Rattle.std.proofs.Common.{arith}
use Rattle.pt_sdf.proofs.HandLaws.{busy-left}
use Rattle.pt_sdf.proofs.CoreLaws.{is-asked}
use Rattle.pt_sdf.proofs.sdf.Core.gives_several.Goals as goal

pub index-requires : goal.index-requires
index-requires c =
    let a = is-asked c.self.inside c.args.self.now c.args.child c.self.view_is c.requires in
    omega (arith, (c.self.invariant.stretch (busy-left c.self.inside c.self.invariant.sound c.args.child a)).there, c.self.inside.plan.order.ok.0)
