use Rattle.pt_core.specs.declared.source.Source.TheVariants.{Own}
use Rattle.pt_de_plan.proofs.EdgeLaws.{edges-to-step}
use Rattle.pt_de_plan.proofs.edges.add_edges.Goals as goal

pub loop-number-preserved : goal.loop-number-preserved
loop-number-preserved c = edges-to-step c.args.child c.args.sources.now c.args.delayed.now c.loop-number.number (Own 0) c.args.edges.now.items c.loop-number.edges.items c.add_edge.new.edges.items c.loop-number-test.true c.requires c.in_ok-add_edge.ensures c.loop-number.invariant
