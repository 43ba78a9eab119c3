use Rattle.std.proofs.Common.{◌≡◌, ◌+◌, ◌≤◌, true, false, take, get_or, arith}
use Rattle.std.proofs.lemmas.Bool.{eqb-true, eq-eqb}
use Rattle.pt_meaning.specs.Running.{total}
use Rattle.pt_rv_inside.proofs.LoopLaws.{take-total, total-more, total-all}
use Rattle.pt_rv_inside.proofs.met.are_enough.Goals as goal

pub loop-count-init : goal.loop-count-init
loop-count-init c = omega arith

pub returns-then-rest-count : goal.returns-then-rest-count
returns-then-rest-count c =
    let ps = c.args.places.now in
    let k = c.loop-count.count-index in
    let more : total (take (k + 1) ps) ≡ total (take k ps) + get_or ps k 0 = total-more ps k c.loop-count-test.true in
    let most : total (take (k + 1) ps) ≤ total ps = take-total ps (k + 1) in
    (λ yes. absurd (let h : false ≡ true = yes in cc), λ enough. absurd (omega (arith, c.if-rest-count.true, more, most, enough, c.loop-count.invariant)))

pub loop-count-preserved : goal.loop-count-preserved
loop-count-preserved c =
    let ps = c.args.places.now in
    let k = c.loop-count.count-index in
    omega (arith, total-more ps k c.loop-count-test.true, c.if-rest-count.false, c.loop-count.invariant)

pub returns : goal.returns
returns c =
    let ps = c.args.places.now in
    let all : total (take c.loop-count.count-index ps) ≡ total ps = total-all ps c.loop-count.count-index c.loop-count-test.false in
    (λ yes. omega (arith, eqb-true c.loop-count.rest c.args.outputs yes, all, c.loop-count.invariant), λ enough. eq-eqb c.loop-count.rest c.args.outputs (omega (arith, enough, all, c.loop-count.invariant)))
