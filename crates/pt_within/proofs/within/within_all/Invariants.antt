use Rattle.std.proofs.Common.{take}
use Rattle.pt_within.specs.Within.{AreWithin}
use Rattle.pt_within.proofs.within.within_all.Given as goal

abbrev pub invariant-loop-channel : goal.invariant-loop-channel
invariant-loop-channel l = AreWithin l.count (take l.channel-index l.channels) l.lists.items
