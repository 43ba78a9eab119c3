use Rattle.std.proofs.Common.{◌≡◌, ◌≤◌, length, arith}
use Rattle.pt_sdf.proofs.BareLaws.{is-bare}
use Rattle.pt_sdf.proofs.sdf.Core.is_bare.Goals as goal

pub returns : goal.returns
returns c = λ t. is-bare c.self.inside c.args.self.now c.self.view_is c.in-Idle.is c.self.invariant.sound c.loop-c.c (omega (arith, c.loop-c-test.false, c.len-c-end.ensures)) c.loop-c.invariant
