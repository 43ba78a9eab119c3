use Rattle.std.proofs.Common.{◌≡◌, ℕ, List, length, map, sym, ap, subst, ◌∙◌, arith}
use Rattle.pt_node.specs.Shown.{shown}
use Rattle.pt_node.specs.View.{Tree}
use Rattle.pt_trees.specs.Composite.{trees_of}
use Rattle.pt_trees.specs.Rendezvous.{AllPlaced}
use Rattle.pt_trees.proofs.NodeLaws.{trees-length}
use Rattle.pt_rv_inside.proofs.MetLaws.{met-if}
use Rattle.pt_rv_inside.proofs.met.is_met.Goals as goal

pub returns-then-children-places : goal.returns-then-children-places
returns-then-children-places c = λ met.
    let long : length c.as_slice-places.result.now ≡ length c.args.wiring.now.places = ap (λ (v : List ℕ). length v) c.as_slice-places.ensures in
    absurd (omega (arith, c.if-children-places.true, met.children, trees-length c.args.children.now, long))

pub returns-then-not-are_placed : goal.returns-then-not-are_placed
returns-then-not-are_placed c = λ met.
    let kids : List Tree = trees_of (map shown c.args.children.now) in
    c.are_placed.ensures.no c.if-not-are_placed.true (subst (λ (v : List ℕ). AllPlaced v kids) (sym c.as_slice-places.ensures) met.placed)

pub returns : goal.returns
returns c =
    let kids : List Tree = trees_of (map shown c.args.children.now) in
    let long : length c.as_slice-places.result.now ≡ length c.args.wiring.now.places = ap (λ (v : List ℕ). length v) c.as_slice-places.ensures in
    let children : length kids ≡ length c.args.wiring.now.places = omega (arith, c.if-children-places.false, trees-length c.args.children.now, long) in
    met-if c.args.wiring.now kids c.fits.result children (subst (λ (v : List ℕ). AllPlaced v kids) c.as_slice-places.ensures (c.are_placed.ensures.yes c.if-not-are_placed.false)) c.fits.ensures
