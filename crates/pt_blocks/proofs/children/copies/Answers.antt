use Rattle.std.proofs.Common.{map, sym, subst, arith}
use Rattle.std.proofs.lemmas.List.{length-map}
use Rattle.pt_node.specs.Shown.{shown, shown_node}
use Rattle.pt_blocks.specs.Children.{IsActor}
use Rattle.pt_blocks.proofs.EachLaws.{shown-get, of-more}
use Rattle.pt_blocks.proofs.children.copies.Goals as goal

pub loop-child-preserved : goal.loop-child-preserved
loop-child-preserved c =
    of-more c.loop-child.child-index (map shown c.args.children.now) c.loop-child.actors.items c.push.new.self.items (shown_node c.child-item.result) c.in_ok-copy.copy c.loop-child.invariant (omega (arith, c.loop-child-test.true, length-map c.args.children.now shown)) (shown c.child-item.result)
    (shown-get c.args.children.now c.loop-child.child-index c.child-item.result c.child-item.result c.child-item.is)
    (subst (λ b. IsActor b c.in_ok-copy.copy) (sym c.in-Actor.is) (sym c.in_ok-copy.ensures)) c.in_ok-push.ensures.items
