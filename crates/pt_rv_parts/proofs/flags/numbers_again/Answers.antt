use Rattle.std.proofs.Common.{length, ap, arith}
use Rattle.std.proofs.lemmas.List.{length-take-le}
use Rattle.pt_rv_parts.proofs.flags.numbers_again.Goals as goal

pub push_reserved-requires : goal.push_reserved-requires
push_reserved-requires c =
    let long = length-take-le c.loop-number.number-index c.args.numbers.now (omega (arith, c.loop-number-test.true)) in
    omega (arith, ap (λ v. length v) c.loop-number.invariant.numbers, long, c.loop-number.invariant.room, c.loop-number-test.true, c.requires)
