use Rattle.std.proofs.Common.{◌≡◌, [], replicate}
use Rattle.pt_recv.proofs.channels.empty_queues.Given as goal

abbrev pub invariant-loop : goal.invariant-loop
invariant-loop l = record {
  lists : l.pool.lists ≡ replicate l.counter [];
  spares : l.pool.spares ≡ replicate l.counter 0;
}
