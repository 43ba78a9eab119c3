use Rattle.std.proofs.Common.{map, ◌∙◌}
use Rattle.pt_core.specs.declared.source.Source.TheVariants.{Own}
use Rattle.pt_node.specs.Shown.{shown}
use Rattle.pt_trees.specs.Composite.{trees_of}
use Rattle.pt_inside.proofs.LoopLaws.{counts-more}
use Rattle.pt_inside.proofs.tokens.first_counts.Goals as goal

pub loop-source-preserved : goal.loop-source-preserved
loop-source-preserved c =
    c.in_ok-push.ensures.items ∙ counts-more (trees_of (map shown c.args.children.now)) c.args.sources.now c.loop-source.source-index (Own 0) c.loop-source.counts.items c.first_of.result.now c.loop-source-test.true c.loop-source.invariant c.first_of.ensures
