use Rattle.std.proofs.Common.{◌≡◌, ℕ, ◌+◌, ◌≤◌, length, take, get_or}
use Rattle.pt_recv.specs.Lines.{spare_at}
use Rattle.pt_puts.specs.Puts.{puts_in}
use Rattle.pt_process.specs.Process.{count_on}
use Rattle.pt_process.proofs.staged.promise.Given as goal

abbrev pub invariant-loop-k : goal.invariant-loop-k
invariant-loop-k l = record {
  lists : l.queues.lists ≡ l.fn.queues.lists;
  spares : length l.queues.spares ≡ length l.fn.queues.spares;
  counted : length l.promised.items ≡ length l.fn.promised.items;
  room : (d : ℕ) → get_or l.promised.items d 0 ≤ spare_at l.queues.spares d;
  kept : (d : ℕ) → get_or l.fn.promised.items d 0 ≤ get_or l.promised.items d 0;
  promised : (d : ℕ) → get_or l.fn.promised.items d 0 + count_on d (puts_in (take l.k l.staged.items)) ≤ get_or l.promised.items d 0;
}
