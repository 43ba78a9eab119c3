use Rattle.std.proofs.Common.{◌≡◌, ◌<◌, ◌+◌, take, drop, sym, ap, ◌∙◌, arith}
use Rattle.pt_flow_base.specs.Row.{present, number_at}
use Rattle.pt_flow_numbers.specs.MultiplyDivide.{after, after_all}
use Rattle.pt_flow_base.proofs.Places.{present-next-below, nothing-below}
use Rattle.pt_flow_numbers.proofs.Quotients.{after-next}
use Rattle.pt_flow_numbers.proofs.multiply_divide.Operation.of_places.Goals as goal

pub loop-place-preserved : goal.loop-place-preserved
loop-place-preserved g c =
    let X = g.I.Numbered.streams c.args.inputs.now in
    let n = c.loop-place.place in
    let to = c.args.to in
    let op = c.args.self in
    let short : n < to = omega arith in
    let rest = present (drop (n + 1) (take to X)) in
    ap (λ r. after_all op r rest) (c.after-partial.ensures ∙ ap (after op c.loop-place.partial) c.number_at.ensures) ∙ after-next op c.loop-place.partial (number_at X n) rest ∙ sym (ap (after_all op c.loop-place.partial) (present-next-below X n to short c.requires.within)) ∙ c.loop-place.invariant

pub returns : goal.returns
unfolding after_all
returns g c =
    let X = g.I.Numbered.streams c.args.inputs.now in
    let to = c.args.to in
    let ends : c.loop-place.place ≡ to = omega (arith, c.requires.order) in
    sym (ap (λ n. after_all c.args.self c.loop-place.partial (present (drop n (take to X)))) ends ∙ ap (λ Y. after_all c.args.self c.loop-place.partial (present Y)) (nothing-below X to)) ∙ c.loop-place.invariant
