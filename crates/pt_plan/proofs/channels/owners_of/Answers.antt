use Rattle.pt_plan.proofs.Numbering.{owners-step}
use Rattle.pt_plan.proofs.channels.owners_of.Goals as goal

pub loop-child-preserved : goal.loop-child-preserved
loop-child-preserved c = owners-step c.args.places.now c.loop-child.child c.loop-child.list.items c.add_places.new.list.items c.loop-child-test.true c.in_ok-add_places.ensures c.loop-child.invariant
