use Rattle.std.proofs.Common.{get_or, refl}
use Rattle.pt_de_inside.proofs.StepLaws.{child-more}
use Rattle.pt_de_inside.proofs.delays.add_all.Goals as goal

pub loop-number-preserved : goal.loop-number-preserved
loop-number-preserved c =
    child-more c.args.children.now c.args.places.now c.loop-number.number (get_or c.args.places.now c.loop-number.number 0) c.index-children-number.result c.args.flags.now.items c.loop-number.flags.items c.add_delays.new.flags.items c.loop-number-test.true c.requires c.index-children-number.is refl c.loop-number.invariant c.in_ok-add_delays.ensures
