use Rattle.std.proofs.Common.{◌≡◌, ◌<◌, ◌+◌, drop, length, Some, None, sym, ap, ◌∙◌, arith, rules}
use Rattle.std.specs.Option.{option_or}
use Rattle.pt_firing.specs.Row.{token_at}
use Rattle.pt_lib_time.specs.Merge.{first_present}
use Rattle.pt_lib_time.proofs.Merging.{first-next, none-first}
use Rattle.pt_lib_time.proofs.merge.first_present.Goals as goal

pub returns-in-Some : goal.returns-in-Some
returns-in-Some c =
    let X = c.args.inputs.now in
    let n = c.loop-place.place in
    let short : n < length X = omega arith in
    let here : Some c.in-Some.token.now ≡ token_at X n = search rules in
    ap (λ o. option_or o (first_present (drop (n + 1) X))) here ∙ sym (first-next X n short) ∙ c.loop-place.invariant

pub loop-place-preserved : goal.loop-place-preserved
loop-place-preserved c =
    let X = c.args.inputs.now in
    let n = c.loop-place.place in
    let short : n < length X = omega arith in
    let none : None ≡ token_at X n = search rules in
    ap (λ o. option_or o (first_present (drop (n + 1) X))) none ∙ sym (first-next X n short) ∙ c.loop-place.invariant

pub returns : goal.returns
returns c =
    let X = c.args.inputs.now in
    sym (none-first X c.loop-place.place (omega arith)) ∙ c.loop-place.invariant
