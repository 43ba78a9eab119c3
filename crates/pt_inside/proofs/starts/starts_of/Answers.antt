use Rattle.std.proofs.Common.{ap, ◌∙◌, map, List, Option, ℕ}
use Rattle.pt_process.specs.Process.{need_in}
use Rattle.pt_inside.proofs.LoopLaws.{kept-at, starts-more}
use Rattle.pt_inside.proofs.starts.starts_of.Goals as goal

pub start_of-requires : goal.start_of-requires
start_of-requires c = kept-at c.args.children.now c.loop-child.child-index c.child-item.result c.loop-child-test.true c.child-item.is c.requires

pub loop-child-preserved : goal.loop-child-preserved
loop-child-preserved c =
    ap (λ (v : List (Option (List ℕ))). map need_in v) c.in_ok-push.ensures.items ∙ starts-more c.args.children.now c.loop-child.child-index c.child-item.result c.loop-child.starts.items c.in_ok-start.start c.loop-child-test.true c.child-item.is c.loop-child.invariant c.in_ok-start.ensures
