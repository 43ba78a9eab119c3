use Rattle.std.proofs.Common.{get_or, arith}
use Rattle.std.proofs.lemmas.List.{get_or_default}
use Rattle.pt_builder.proofs.LoopLaws.{reach-child, start-built, start-fresh, child-more, all-built}
use Rattle.pt_builder.proofs.FaultLaws.{fresh-more}
use Rattle.pt_builder.specs.Starts.{starts_in}
use Rattle.pt_build.proofs.nodes.+tree.Goals as goal

pub add_node-entity_at-requires : goal.add_node-entity_at-requires
add_node-entity_at-requires t c = (c.args.depth, c.requires.nested)

pub add_node-returns-clause-added : goal.add_node-returns-clause-added
add_node-returns-clause-added t c = record {
  node = c.in_ok-node.node;
  is_last = c.in_ok-push.ensures.items;
  built = c.in_ok-node.ensures.built;
  fresh = c.in_ok-node.ensures.fresh;
}

pub children_at-add_node-requires : goal.children_at-add_node-requires
children_at-add_node-requires t c =
    (omega (arith, c.requires.room), reach-child c.args.builder.now c.args.k c.args.depth c.children_of-numbers.result.now c.loop-number.number-index (get_or c.children_of-numbers.result.now c.loop-number.number-index 0) c.requires c.children_of-numbers.ensures c.loop-number-test.true (get_or_default c.children_of-numbers.result.now c.loop-number.number-index 0 (get_or c.children_of-numbers.result.now c.loop-number.number-index 0) c.loop-number-test.true))

pub children_at-loop-number-init : goal.children_at-loop-number-init
children_at-loop-number-init t c = record {
  built = start-built c.args.builder.now.net.now (starts_in c.args.builder.now) c.children_of-numbers.result.now c.in_ok-children.children.items c.in_ok-children.ensures.items;
  fresh = start-fresh c.in_ok-children.children.items c.in_ok-children.ensures.items;
}

pub children_at-loop-number-preserved : goal.children_at-loop-number-preserved
children_at-loop-number-preserved t c = record {
  built = child-more c.args.builder.now.net.now (starts_in c.args.builder.now) c.children_of-numbers.result.now c.loop-number.number-index (get_or c.children_of-numbers.result.now c.loop-number.number-index 0) c.loop-number.children.items c.add_node.new.nodes.items c.in_ok-add_node.ensures.added.node c.loop-number-test.true (get_or_default c.children_of-numbers.result.now c.loop-number.number-index 0 (get_or c.children_of-numbers.result.now c.loop-number.number-index 0) c.loop-number-test.true) c.loop-number.invariant.built c.in_ok-add_node.ensures.added.built c.in_ok-add_node.ensures.added.is_last;
  fresh = fresh-more c.loop-number.children.items c.add_node.new.nodes.items c.in_ok-add_node.ensures.added.node c.loop-number.invariant.fresh c.in_ok-add_node.ensures.added.fresh c.in_ok-add_node.ensures.added.is_last;
}

pub children_at-returns-clause-built : goal.children_at-returns-clause-built
children_at-returns-clause-built t c =
    all-built c.args.builder.now.net.now (starts_in c.args.builder.now) c.args.k c.children_of-numbers.result.now c.loop-number.number-index c.loop-number.children.items c.children_of-numbers.ensures c.loop-number-test.false c.loop-number.invariant.built
