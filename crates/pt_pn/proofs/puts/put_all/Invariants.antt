use Rattle.std.proofs.Common.{◌≡◌, ℕ, ◌+◌, ◌≤◌, length, get_or}
use Rattle.pt_recv.specs.Lines.{spare_at}
use Rattle.pt_puts.specs.Puts.{puts_in}
use Rattle.pt_process.specs.Process.{count_on}
use Rattle.pt_pn.specs.Puts.{all_put}
use Rattle.pt_pn.specs.Noted.{tokens_came}
use Rattle.pt_pn.proofs.puts.put_all.Given as goal

abbrev pub invariant-loop : goal.invariant-loop
invariant-loop l = record {
  left_over : l.counter + length l.staged.items ≡ length l.fn.staged.items;
  lists : all_put (puts_in l.staged.items) l.queues.lists ≡ all_put (puts_in l.fn.staged.items) l.fn.queues.lists;
  long : length l.queues.lists ≡ length l.fn.queues.lists;
  spares : length l.queues.spares ≡ length l.fn.queues.spares;
  counted : length l.promised.items ≡ length l.fn.promised.items;
  room : (d : ℕ) → get_or l.promised.items d 0 ≤ spare_at l.queues.spares d;
  promised : (d : ℕ) → count_on d (puts_in l.staged.items) ≤ get_or l.promised.items d 0;
  left : (d : ℕ) → get_or l.fn.promised.items d 0 + count_on d (puts_in l.staged.items) ≤ get_or l.promised.items d 0 + count_on d (puts_in l.fn.staged.items);
  noted : tokens_came (puts_in l.staged.items) l.notes ≡ tokens_came (puts_in l.fn.staged.items) l.fn.notes;
}
