use Rattle.std.proofs.Common.{◌≡◌, ℕ, ◌+◌, ◌≤◌, length, set, take, drop}
use Rattle.pt_recv.specs.Lines.{list_at, spare_at}
use Rattle.pt_pn.proofs.outlets.drain.Given as goal

abbrev pub invariant-loop : goal.invariant-loop
invariant-loop l = record {
  moved : l.line.list ≡ take l.counter (list_at l.fn.queues.lists l.channel);
  room : length (list_at l.fn.queues.lists l.channel) ≤ l.counter + l.line.spare;
  left : l.queues.lists ≡ set l.fn.queues.lists l.channel (drop l.counter (list_at l.fn.queues.lists l.channel));
  spares : length l.queues.spares ≡ length l.fn.queues.spares;
  more : (d : ℕ) → spare_at l.fn.queues.spares d ≤ spare_at l.queues.spares d;
}
