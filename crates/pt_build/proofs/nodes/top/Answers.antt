use Rattle.std.proofs.Common.{◌≡◌, ℕ, length, subst, arith}
use Rattle.pt_node.specs.declared.node.Node.{Node}
use Rattle.pt_node.specs.Shown.{shown_node}
use Rattle.pt_trees.specs.Fresh.{IsFresh}
use Rattle.pt_trees.specs.Built.{IsBuilt}
use Rattle.pt_builder.specs.Starts.{starts_in}
use Rattle.pt_builder.proofs.TopLaws.{popped, none-popped}
use Rattle.pt_build.proofs.nodes.top.Goals as goal

pub returns-clause-built : goal.returns-clause-built
returns-clause-built c =
    let added = c.in_ok-add_node.ensures.added in
    subst (λ (node : Node). IsBuilt c.args.builder.now.net.now (starts_in c.args.builder.now) 0 (shown_node node)) (popped c.in_ok-nodes.nodes.items c.add_node.new.nodes.items c.pop.new.self.items added.node c.in-Some.node c.in_ok-nodes.ensures.items added.is_last c.in-Some.ensures.items) added.built

pub returns-clause-fresh : goal.returns-clause-fresh
returns-clause-fresh c =
    let added = c.in_ok-add_node.ensures.added in
    subst (λ (node : Node). IsFresh (shown_node node)) (popped c.in_ok-nodes.nodes.items c.add_node.new.nodes.items c.pop.new.self.items added.node c.in-Some.node c.in_ok-nodes.ensures.items added.is_last c.in-Some.ensures.items) added.fresh

pub unreachable-requires : goal.unreachable-requires
unreachable-requires c =
    let added = c.in_ok-add_node.ensures.added in
    let none : length c.add_node.new.nodes.items ≡ 0 = omega (arith, c.in-None.ensures.cases.0, c.add_node.new.nodes.ok.0) in
    none-popped c.in_ok-nodes.nodes.items c.add_node.new.nodes.items added.node c.in_ok-nodes.ensures.items added.is_last none
