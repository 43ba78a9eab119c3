use Rattle.std.proofs.Common.{◌≡◌, take, map}
use Rattle.pt_core.specs.Source.{source_of}
use Rattle.pt_node.specs.Shown.{shown}
use Rattle.pt_trees.specs.Sdf.{first_counts}
use Rattle.pt_trees.specs.Composite.{trees_of}
use Rattle.pt_inside.proofs.tokens.first_counts.Given as goal

abbrev pub invariant-loop-source : goal.invariant-loop-source
invariant-loop-source l = l.counts.items ≡ first_counts (trees_of (map shown l.children)) (map source_of (take l.source-index l.sources))
