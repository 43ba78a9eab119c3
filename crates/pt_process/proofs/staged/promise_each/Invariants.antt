use Rattle.std.proofs.Common.{◌≡◌, ℕ, ◌+◌, ◌≤◌, length, take, get_or}
use Rattle.pt_meaning.specs.Process.{to_each}
use Rattle.pt_value.specs.declared.token.Token.{Token}
use Rattle.pt_recv.specs.Lines.{spare_at}
use Rattle.pt_process.specs.Process.{count_on}
use Rattle.pt_process.proofs.staged.promise_each.Given as goal

abbrev pub invariant-loop-channel : goal.invariant-loop-channel
invariant-loop-channel l = record {
  lists : l.queues.lists ≡ l.fn.queues.lists;
  spares : length l.queues.spares ≡ length l.fn.queues.spares;
  counted : length l.promised.items ≡ length l.fn.promised.items;
  room : (d : ℕ) → get_or l.promised.items d 0 ≤ spare_at l.queues.spares d;
  kept : (d : ℕ) → get_or l.fn.promised.items d 0 ≤ get_or l.promised.items d 0;
  promised : (x : Token) (d : ℕ) → get_or l.fn.promised.items d 0 + count_on d (to_each x (take l.channel-index l.fan)) ≤ get_or l.promised.items d 0;
}
