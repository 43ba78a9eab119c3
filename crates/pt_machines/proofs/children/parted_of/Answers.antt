use Rattle.pt_machines.proofs.ChildLaws.{marked-none, mark-more, marked-all}
use Rattle.pt_machines.proofs.children.parted_of.Goals as goal

pub loop-composite-init : goal.loop-composite-init
loop-composite-init c = marked-none c.args.count c.in_ok-parted.parted.items c.in_ok-parted.ensures

pub loop-composite-preserved : goal.loop-composite-preserved
loop-composite-preserved c =
    mark-more c.args.count c.args.composites.now c.loop-composite.composite-index c.composite-item.result c.loop-composite.parted.items c.mark.new.parted.items c.loop-composite-test.true c.composite-item.is c.loop-composite.invariant c.mark.ensures

pub returns-clause-counted : goal.returns-clause-counted
returns-clause-counted c = (marked-all c.args.count c.args.composites.now c.loop-composite.composite-index c.loop-composite.parted.items c.loop-composite-test.false c.loop-composite.invariant).counted

pub returns-clause-each : goal.returns-clause-each
returns-clause-each c = (marked-all c.args.count c.args.composites.now c.loop-composite.composite-index c.loop-composite.parted.items c.loop-composite-test.false c.loop-composite.invariant).each
