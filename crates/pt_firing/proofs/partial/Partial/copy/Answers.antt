use Rattle.std.proofs.Common.{◌≤◌, length, ap, ◌∙◌, arith}
use Rattle.std.proofs.lemmas.List.{length-take-le}
use Rattle.pt_firing.proofs.Known.{copied-one}
use Rattle.pt_firing.proofs.partial.Partial.copy.Goals as goal

pub push_reserved-requires : goal.push_reserved-requires
push_reserved-requires c =
    let long = length-take-le c.loop-state.state-index c.deref-state-items.result.now (omega (arith, c.loop-state-test.true)) in
    omega (arith, ap length c.loop-state.invariant.0, long, c.loop-state.invariant.2, c.loop-state-test.true)

pub loop-state-preserved : goal.loop-state-preserved
loop-state-preserved c = (
  c.push_reserved.ensures.items ∙ copied-one c.deref-state-items.result.now c.loop-state.states.items c.loop-state.state-index c.in_ok-state.state c.state-item.result c.loop-state.invariant.0 c.loop-state-test.true c.state-item.is c.in_ok-state.ensures,
  c.loop-state.invariant.1,
  c.push_reserved.ensures.capacity ∙ c.loop-state.invariant.2,
)
