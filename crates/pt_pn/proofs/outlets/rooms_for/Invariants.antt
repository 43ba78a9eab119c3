use Rattle.std.proofs.Common.{◌≡◌, ◌+◌, length}
use Rattle.pt_pn.specs.Outlets.{HaveRoom}
use Rattle.pt_pn.proofs.outlets.rooms_for.Given as goal

abbrev pub invariant-loop-channel : goal.invariant-loop-channel
invariant-loop-channel l = record {
  counted : l.from + length l.rooms.items ≡ l.channel;
  rooms : HaveRoom l.queues.lists l.from 0 l.rooms.items;
}
