use Rattle.std.proofs.Common.{◌≡◌, ◌≤◌, drop, length}
use Rattle.pt_lib_timed.specs.Pending.{wake}
use Rattle.pt_lib_timed.proofs.pending.least_of.Given as goal

abbrev pub invariant-loop-k : goal.invariant-loop-k
invariant-loop-k l = record {
  least : l.least ≡ wake (drop l.k l.events.items);
  within : l.k ≤ length l.events.items;
}

abbrev pub decreases-loop-k : goal.decreases-loop-k
decreases-loop-k l = l.k
