use Rattle.std.proofs.Common.{◌≡◌, ◌++◌, ◌-◌, [], length, take, replicate}
use Rattle.pt_pn.proofs.fresh.queues_of.Given as goal

abbrev pub invariant-loop-channel : goal.invariant-loop-channel
invariant-loop-channel l = record {
  lists : l.queues.lists ≡ take l.channel l.first ++ replicate (length l.first - l.channel) [];
  spares : length l.queues.spares ≡ length l.first;
}
