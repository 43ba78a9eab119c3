use Rattle.std.proofs.Common.{◌≤◌, sym, subst, arith}
use Rattle.std.proofs.Math.Nat.{le_trans, mul-le-mul_right}
use Rattle.pt_recv.specs.Lines.{list_at}
use Rattle.pt_sdf_parts.specs.InFront.{AreInFront}
use Rattle.pt_sdf_parts.proofs.IntLaws.{in-front}
use Rattle.pt_sdf_parts.proofs.numbers.rows_in_front.Goals as goal

pub at_one_place-requires : goal.at_one_place-requires
at_one_place-requires c =
    let fewer : c.min-firings.result ≤ c.times_within.result = omega (arith, c.min-firings.ensures) in
    le_trans (mul-le-mul_right c.args.need fewer) c.times_within.ensures

pub returns : goal.returns
returns c =
    let fewer : c.min-firings.result ≤ c.times_within.result = omega (arith, c.min-firings.ensures) in
    let front = list_at c.args.channels.now.lists c.args.c in
    subst (λ rows. AreInFront c.args.need front rows) (sym c.at_one_place.ensures) (in-front c.args.need c.min-firings.result c.numbers-numbers.result.now front c.numbers-numbers.ensures (le_trans (mul-le-mul_right c.args.need fewer) c.times_within.ensures))
