use Rattle.std.proofs.Common.{take, map}
use Rattle.pt_node.specs.Shown.{shown}
use Rattle.pt_trees.specs.Composite.{trees_of}
use Rattle.pt_trees.specs.Rates.{HaveRates}
use Rattle.pt_inside.proofs.rates.rates_of.Given as goal

abbrev pub invariant-loop-child : goal.invariant-loop-child
invariant-loop-child l = HaveRates l.declared (trees_of (map shown (take l.child-index l.children))) l.rates.items
