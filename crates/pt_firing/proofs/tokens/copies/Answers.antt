use Rattle.std.proofs.Common.{◌≤◌, length, ap, ◌∙◌, arith}
use Rattle.std.proofs.lemmas.List.{length-take-le}
use Rattle.pt_firing.proofs.Known.{copied-one}
use Rattle.pt_firing.proofs.tokens.copies.Goals as goal

pub push_reserved-requires : goal.push_reserved-requires
push_reserved-requires c =
    let long = length-take-le c.loop-token.token-index c.args.tokens.now (omega (arith, c.loop-token-test.true)) in
    omega (arith, ap length c.loop-token.invariant.0, long, c.loop-token.invariant.1, c.loop-token-test.true)

pub loop-token-preserved : goal.loop-token-preserved
loop-token-preserved c = (
  c.push_reserved.ensures.items ∙ copied-one c.args.tokens.now c.loop-token.copies.items c.loop-token.token-index c.in_ok-token.token c.token-item.result c.loop-token.invariant.0 c.loop-token-test.true c.token-item.is c.in_ok-token.ensures.value,
  c.push_reserved.ensures.capacity ∙ c.loop-token.invariant.1,
)
