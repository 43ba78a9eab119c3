use Rattle.std.proofs.Common.{take}
use Rattle.pt_wiring.specs.Channels.{AreArrivals}
use Rattle.pt_wiring.proofs.inside.arrivals_at.Given as goal

abbrev pub invariant-loop-channel : goal.invariant-loop-channel
invariant-loop-channel l = AreArrivals l.count (take l.channel-index l.channels) l.arrivals.items
