use Rattle.std.proofs.Common.{List, get_or, sym, subst, arith}
use Rattle.std.proofs.lemmas.Bool.{both_ways}
use Rattle.std.proofs.lemmas.Option.{none-some}
use Rattle.pt_meaning.specs.Machine.{Need}
use Rattle.pt_node.specs.declared.node.Node.{Node}
use Rattle.pt_trees.specs.Rendezvous.{IsPlaced}
use Rattle.pt_rv_inside.proofs.LoopLaws.{placed-more, placed-all, misplaced-at}
use Rattle.pt_rv_inside.proofs.met.are_placed.Goals as goal

pub loop-number-init : goal.loop-number-init
loop-number-init c = λ i kid e. absurd (none-some kid e)

pub returns-then-not-is_placed-clause-no : goal.returns-then-not-is_placed-clause-no
returns-then-not-is_placed-clause-no c _ =
    let kids : List Node = c.args.children.now in
    let places = c.args.places.now in
    let n = c.loop-number.number in
    misplaced-at places kids n c.index-children-number.result c.loop-number-test.true c.index-children-number.is
    (λ placed. both_ways c.is_placed.result c.if-not-is_placed.true (c.is_placed.ensures.1 (subst (λ (need : Need). IsPlaced (get_or places n 0) need) (sym c.need.ensures) placed)))

pub loop-number-preserved : goal.loop-number-preserved
loop-number-preserved c =
    let kids : List Node = c.args.children.now in
    let places = c.args.places.now in
    let n = c.loop-number.number in
    placed-more places kids n c.index-children-number.result c.loop-number-test.true c.index-children-number.is c.loop-number.invariant (subst (λ (need : Need). IsPlaced (get_or places n 0) need) c.need.ensures (c.is_placed.ensures.0 c.if-not-is_placed.false))

pub returns-clause-yes : goal.returns-clause-yes
returns-clause-yes c _ = placed-all c.args.places.now c.args.children.now c.loop-number.number (omega (arith, c.loop-number-test.false)) c.loop-number.invariant
