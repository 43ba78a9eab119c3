use Rattle.std.proofs.Common.{◌≡◌, ◌<◌, ◌≤◌, ◌+◌, drop, length, sym, ap, ◌∙◌, arith}
use Rattle.pt_firing.specs.Row.{truth_at}
use Rattle.pt_lib_data.specs.LogicFunction.{count_given, count_true, given, trues}
use Rattle.pt_lib_data.proofs.Present.{given-next, trues-next, none-given, none-true, true-le, given-le}
use Rattle.pt_lib_data.proofs.logic_function.Tally.of.Goals as goal

pub with-tally-requires-clause-given : goal.with-tally-requires-clause-given
with-tally-requires-clause-given c = omega (arith, c.loop-place.invariant.3)

pub loop-place-preserved : goal.loop-place-preserved
loop-place-preserved c =
    let X = c.args.inputs.now in
    let n = c.loop-place.place in
    let i = c.loop-place.invariant in
    let short : n < length X = omega arith in
    let g : c.with-tally.result.given ≡ c.loop-place.tally.given + count_given (truth_at X n) = c.with-tally.ensures.given ∙ ap (λ o. c.loop-place.tally.given + count_given o) c.truth_at.ensures in
    let t : c.with-tally.result.trues ≡ c.loop-place.tally.trues + count_true (truth_at X n) = c.with-tally.ensures.trues ∙ ap (λ o. c.loop-place.tally.trues + count_true o) c.truth_at.ensures in
    (omega (arith, g, i.0, given-next X n short), omega (arith, t, i.1, trues-next X n short), omega (arith, g, t, i.2, true-le (truth_at X n)), omega (arith, g, i.3, given-le (truth_at X n)))

pub returns-clause-given : goal.returns-clause-given
returns-clause-given c = omega (arith, c.loop-place.invariant.0, none-given c.args.inputs.now c.loop-place.place (omega arith))

pub returns-clause-trues : goal.returns-clause-trues
returns-clause-trues c = omega (arith, c.loop-place.invariant.1, none-true c.args.inputs.now c.loop-place.place (omega arith))
