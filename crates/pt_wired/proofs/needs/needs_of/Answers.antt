use Rattle.std.proofs.Common.{ℕ, List, arith, refl, subst, get_or}
use Rattle.pt_node.specs.declared.node.Node.{Node}
use Rattle.pt_node.specs.Shown.{shown_node}
use Rattle.pt_node.specs.View.{node_of}
use Rattle.pt_wired.specs.Needs.{IsAdded}
use Rattle.pt_wired.proofs.NeedSteps.{needs-step, needs-none, needs-counted}
use Rattle.pt_wired.proofs.needs.needs_of.Goals as goal

pub returns-then-children-places : goal.returns-then-children-places
returns-then-children-places c = λ ns all. omega (arith, c.if-children-places.true, needs-counted c.args.children.now c.args.places.now ns all)

pub returns-then-not-branch : goal.returns-then-not-branch
returns-then-not-branch c = λ ns all.
    let kids : List Node = c.args.children.now in
    let places : List ℕ = c.args.places.now in
    let n : ℕ = c.loop-number.number in
    let kid : Node = c.index-children-number.result in
    needs-none kids places n (get_or places n 0) kid (omega arith) (omega (arith, c.loop-number.invariant.counted)) c.index-children-number.is refl (subst (λ b. IsAdded (node_of (shown_node kid)) (get_or places n 0) c.loop-number.needs.items c.add_needs.new.needs.items b) c.if-not-branch.true c.in_ok-add_needs.ensures) ns all

pub loop-number-preserved : goal.loop-number-preserved
loop-number-preserved c =
    let kids : List Node = c.args.children.now in
    let places : List ℕ = c.args.places.now in
    let n : ℕ = c.loop-number.number in
    let kid : Node = c.index-children-number.result in record {
      counted = c.loop-number.invariant.counted;
      so_far =
          needs-step kids places c.loop-number.needs.items c.add_needs.new.needs.items n (get_or places n 0) kid (omega arith) (omega (arith, c.loop-number.invariant.counted)) c.index-children-number.is refl c.loop-number.invariant.so_far (subst (λ b. IsAdded (node_of (shown_node kid)) (get_or places n 0) c.loop-number.needs.items c.add_needs.new.needs.items b) c.if-not-branch.false c.in_ok-add_needs.ensures);
    }
