use Rattle.std.proofs.Common.{◌+◌, ◌-◌, ◌*◌, take, map}
use Rattle.pt_node.specs.Shown.{shown}
use Rattle.pt_trees.specs.Fresh.{AllFresh}
use Rattle.pt_trees.specs.Built.{AreBuilt}
use Rattle.pt_builder.specs.Starts.{starts_in}
use Rattle.pt_build.proofs.nodes.+tree.Given as goal

abbrev pub decreases-composite_node : goal.decreases-composite_node
decreases-composite_node l = 3 * (32 - l.depth) + 1

abbrev pub decreases-add_node : goal.decreases-add_node
decreases-add_node l = 3 * (32 - l.depth) + 2

abbrev pub decreases-children_at : goal.decreases-children_at
decreases-children_at l = 3 * (32 - l.depth)

abbrev pub invariant-children_at-loop-number : goal.invariant-children_at-loop-number
invariant-children_at-loop-number l = record {
  built : AreBuilt l.builder.net.now (starts_in l.builder) (take l.number-index l.numbers) (map shown l.children.items);
  fresh : AllFresh (map shown l.children.items);
}
