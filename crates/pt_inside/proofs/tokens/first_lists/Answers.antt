use Rattle.std.proofs.Common.{map, ◌∙◌}
use Rattle.pt_core.specs.declared.source.Source.TheVariants.{Own}
use Rattle.pt_node.specs.Shown.{shown}
use Rattle.pt_trees.specs.Composite.{trees_of}
use Rattle.pt_inside.proofs.LoopLaws.{lists-more}
use Rattle.pt_inside.proofs.tokens.first_lists.Goals as goal

pub loop-source-preserved : goal.loop-source-preserved
loop-source-preserved c =
    c.in_ok-push.ensures.items ∙ lists-more (trees_of (map shown c.args.children.now)) c.args.sources.now c.loop-source.source-index (Own 0) c.loop-source.lists.items c.in_ok-copies.copies c.loop-source-test.true c.loop-source.invariant (c.in_ok-copies.ensures ∙ c.first_of-tokens.ensures)
