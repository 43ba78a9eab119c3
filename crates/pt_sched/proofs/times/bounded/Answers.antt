use Rattle.std.proofs.Common.{get_or}
use Rattle.pt_sched.proofs.Listing.{no_channel}
use Rattle.pt_sched.proofs.times.bounded.Goals as goal

pub nonzero_div-most : goal.nonzero_div-most
nonzero_div-most c =
    let number = get_or c.args.outs.now c.loop-number.number-index 0 in
    c.requires.channels number no_channel (c.requires.outs c.loop-number.number-index 0 c.loop-number-test.true)
