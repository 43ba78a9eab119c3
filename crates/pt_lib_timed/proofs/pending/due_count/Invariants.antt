use Rattle.std.proofs.Common.{◌≡◌, ◌+◌, ◌≤◌, drop, length}
use Rattle.pt_lib_timed.specs.Pending.{due}
use Rattle.pt_lib_timed.proofs.pending.due_count.Given as goal

abbrev pub invariant-loop-k : goal.invariant-loop-k
invariant-loop-k l = record {
  counted : l.count + length (due l.tag (drop l.k l.events.items)) ≡ length (due l.tag l.events.items);
  few : l.count ≤ l.k;
}
