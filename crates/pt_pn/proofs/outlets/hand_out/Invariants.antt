use Rattle.std.proofs.Common.{◌≡◌, ℕ, ◌+◌, ◌-◌, ◌≤◌, length, take, drop}
use Rattle.std.specs.Vec.{vec_len, vec_capacity}
use Rattle.pt_recv.specs.Lines.{spare_at}
use Rattle.pt_pn.specs.Outlets.{HaveRoom}
use Rattle.pt_pn.proofs.OutletLaws.{Drained}
use Rattle.pt_pn.proofs.outlets.hand_out.Given as goal

abbrev pub invariant-loop-k : goal.invariant-loop-k
invariant-loop-k l = record {
  counted : vec_len l.lists ≡ l.k;
  capacity : vec_capacity l.lists ≡ l.channels - l.from;
  rooms : l.from + length l.rooms.items ≡ l.channels;
  have : HaveRoom l.fn.queues.lists l.from l.k l.rooms.items;
  given : l.lists.items ≡ take l.k (drop l.from l.fn.queues.lists);
  left : Drained l.fn.queues.lists l.queues.lists l.from l.k;
  spares : length l.queues.spares ≡ length l.fn.queues.spares;
  more : (d : ℕ) → spare_at l.fn.queues.spares d ≤ spare_at l.queues.spares d;
}
