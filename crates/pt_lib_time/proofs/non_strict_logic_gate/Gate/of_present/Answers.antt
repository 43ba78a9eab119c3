use Rattle.std.proofs.Common.{◌<◌, ◌+◌, drop, length, sym, ap, ◌∙◌, arith}
use Rattle.pt_firing.specs.Row.{truth_at}
use Rattle.pt_lib_time.specs.NonStrictLogicGate.{with_signal, result}
use Rattle.pt_lib_time.proofs.Gates.{result-next, result-end, with-with, with-none}
use Rattle.pt_lib_time.proofs.non_strict_logic_gate.Gate.of_present.Goals as goal

pub loop-place-preserved : goal.loop-place-preserved
loop-place-preserved c =
    let g = c.args.self in
    let X = c.args.inputs.now in
    let n = c.loop-place.place in
    let short : n < length X = omega arith in
    let rest = result g (drop (n + 1) X) in
    ap (λ o. with_signal g o rest) (c.with-found.ensures ∙ ap (λ o. with_signal g c.loop-place.found o) c.truth_at.ensures) ∙ with-with g c.loop-place.found (truth_at X n) rest ∙ ap (λ o. with_signal g c.loop-place.found o) (sym (result-next g X n short)) ∙ c.loop-place.invariant

pub returns : goal.returns
returns c =
    let g = c.args.self in
    let X = c.args.inputs.now in
    sym (with-none g c.loop-place.found) ∙ ap (λ o. with_signal g c.loop-place.found o) (sym (result-end g X c.loop-place.place (omega arith))) ∙ c.loop-place.invariant
