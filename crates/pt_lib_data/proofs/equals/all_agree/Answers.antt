use Rattle.std.proofs.Common.{◌≡◌, ◌<◌, ◌+◌, ◌&&◌, drop, length, true, false, sym, ap, ◌∙◌, arith, rules}
use Rattle.pt_lib_data.specs.Equals.{agrees, all_agree}
use Rattle.pt_lib_data.proofs.Present.{agree-next, none-differ}
use Rattle.pt_lib_data.proofs.equals.all_agree.Goals as goal

pub returns-then-not-agrees : goal.returns-then-not-agrees
returns-then-not-agrees c =
    let X = c.args.inputs.now in
    let t = c.args.token.now in
    let n = c.loop-place.place in
    let short : n < length X = omega arith in
    let differs : agrees t X n ≡ false = search rules in
    ap (λ b. b && all_agree t (drop (n + 1) X)) (sym differs) ∙ sym (agree-next t X n short) ∙ c.loop-place.invariant

pub loop-place-preserved : goal.loop-place-preserved
loop-place-preserved c =
    let X = c.args.inputs.now in
    let t = c.args.token.now in
    let n = c.loop-place.place in
    let short : n < length X = omega arith in
    let same : agrees t X n ≡ true = search rules in
    ap (λ b. b && all_agree t (drop (n + 1) X)) (sym same) ∙ sym (agree-next t X n short) ∙ c.loop-place.invariant

pub returns : goal.returns
returns c = sym (none-differ c.args.token.now c.args.inputs.now c.loop-place.place (omega arith)) ∙ c.loop-place.invariant
