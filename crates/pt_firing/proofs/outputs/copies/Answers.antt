use Rattle.std.proofs.Common.{◌≤◌, length, ap, ◌∙◌, arith}
use Rattle.std.proofs.lemmas.List.{length-take-le}
use Rattle.pt_firing.proofs.Known.{copied-one}
use Rattle.pt_firing.proofs.outputs.copies.Goals as goal

pub push_reserved-requires : goal.push_reserved-requires
push_reserved-requires c =
    let long = length-take-le c.loop-tokens.tokens-index c.args.lists.now (omega (arith, c.loop-tokens-test.true)) in
    omega (arith, ap length c.loop-tokens.invariant.0, long, c.loop-tokens.invariant.1, c.loop-tokens-test.true)

pub loop-tokens-preserved : goal.loop-tokens-preserved
loop-tokens-preserved c = (
  c.push_reserved.ensures.items ∙ copied-one c.args.lists.now c.loop-tokens.copies.items c.loop-tokens.tokens-index c.in_ok-tokens.tokens c.tokens-item.result c.loop-tokens.invariant.0 c.loop-tokens-test.true c.tokens-item.is c.in_ok-tokens.ensures,
  c.push_reserved.ensures.capacity ∙ c.loop-tokens.invariant.1,
)
