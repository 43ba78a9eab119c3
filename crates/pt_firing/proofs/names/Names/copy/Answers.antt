use Rattle.std.proofs.Common.{◌≤◌, length, ap, ◌∙◌, arith}
use Rattle.std.proofs.lemmas.List.{length-take-le}
use Rattle.pt_firing.proofs.Known.{copied-one}
use Rattle.pt_firing.proofs.names.Names.copy.Goals as goal

pub push_reserved-requires : goal.push_reserved-requires
push_reserved-requires c =
    let long = length-take-le c.loop-name.name-index c.deref-name-items.result.now (omega (arith, c.loop-name-test.true)) in
    omega (arith, ap length c.loop-name.invariant.0, long, c.loop-name.invariant.1, c.loop-name-test.true)

pub loop-name-preserved : goal.loop-name-preserved
loop-name-preserved c = (
  c.push_reserved.ensures.items ∙ copied-one c.deref-name-items.result.now c.loop-name.names.items c.loop-name.name-index c.in_ok-name.name c.name-item.result c.loop-name.invariant.0 c.loop-name-test.true c.name-item.is c.in_ok-name.ensures,
  c.push_reserved.ensures.capacity ∙ c.loop-name.invariant.1,
)
