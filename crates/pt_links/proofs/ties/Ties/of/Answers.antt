use Rattle.pt_net.specs.declared.wire.Wire.TheVariants.{Outside}
use Rattle.pt_links.proofs.TieSteps.{tied_more}
use Rattle.pt_links.proofs.ties.Ties.of.Goals as goal

pub loop-wire-preserved : goal.loop-wire-preserved
loop-wire-preserved c =
    rw (c.in_ok-add.ensures.outside, c.in_ok-add.ensures.inside)
    (tied_more c.args.count c.args.wires.now c.loop-wire.wire-index (Outside 0 0) c.loop-wire.ties.outside.items c.loop-wire.ties.inside.items c.loop-wire-test.true (c.requires c.loop-wire.wire-index (Outside 0 0) c.loop-wire-test.true) c.loop-wire.invariant)
