use Rattle.std.proofs.Common.{take}
use Rattle.pt_start.specs.Counts.{AreCounts, AreSized}
use Rattle.pt_start.proofs.counts.counts_of.Given as goal

abbrev pub invariant-loop-channel : goal.invariant-loop-channel
invariant-loop-channel l = record {
  counts : AreCounts (take l.channel-index l.channels) l.rows.items;
  sized : AreSized l.entities l.rows.items;
}
