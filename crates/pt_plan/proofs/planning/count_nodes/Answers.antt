use Rattle.std.proofs.Common.{arith}
use Rattle.pt_rates.proofs.Solves.{sum-start}
use Rattle.pt_plan.specs.Channels.{nodes_of, edges_of}
use Rattle.pt_plan.specs.Fault.{firings}
use Rattle.pt_plan.proofs.planning.count_nodes.Goals as goal

pub returns-then-children-gt-MOST_NODES-clause-err : goal.returns-then-children-gt-MOST_NODES-clause-err
returns-then-children-gt-MOST_NODES-clause-err c = firings (nodes_of c.args.inside.now) (sum-start (nodes_of c.args.inside.now) (edges_of c.args.inside.now) (omega (arith, c.len-children.ensures, c.if-children-gt-MOST_NODES.true)))

pub returns-then-nodes-gt-MOST_NODES-clause-err : goal.returns-then-nodes-gt-MOST_NODES-clause-err
returns-then-nodes-gt-MOST_NODES-clause-err c = firings (nodes_of c.args.inside.now) (sum-start (nodes_of c.args.inside.now) (edges_of c.args.inside.now) (omega (arith, c.len-children.ensures, c.if-nodes-gt-MOST_NODES.true)))
