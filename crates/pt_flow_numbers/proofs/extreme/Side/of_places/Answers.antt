use Rattle.std.proofs.Common.{◌≡◌, ◌<◌, ◌+◌, drop, length, sym, ap, ◌∙◌, arith}
use Rattle.pt_flow_base.specs.Row.{present}
use Rattle.pt_flow_numbers.specs.Extreme.{best_of, better}
use Rattle.pt_flow_base.proofs.Places.{present-next, nothing-left}
use Rattle.pt_flow_numbers.proofs.Extremes.{best-next}
use Rattle.pt_flow_numbers.proofs.extreme.Side.of_places.Goals as goal

pub loop-place-preserved : goal.loop-place-preserved
loop-place-preserved g c =
    let X = g.I.Numbered.streams c.args.inputs.now in
    let n = c.loop-place.place in
    let rest = present (drop (n + 1) X) in
    let short : n < length X = omega arith in
    ap (λ b. best_of c.args.self b rest) (c.better-best.ensures ∙ ap (better c.args.self c.loop-place.best) c.number_at.ensures) ∙ best-next c.args.self c.loop-place.best _ rest ∙ sym (ap (best_of c.args.self c.loop-place.best) (present-next X n short)) ∙ c.loop-place.invariant

pub returns : goal.returns
unfolding best_of
returns g c =
    let X = g.I.Numbered.streams c.args.inputs.now in
    let ends : c.loop-place.place ≡ length X = omega arith in
    sym (ap (λ n. best_of c.args.self c.loop-place.best (present (drop n X))) ends ∙ ap (λ Y. best_of c.args.self c.loop-place.best (present Y)) (nothing-left X)) ∙ c.loop-place.invariant
