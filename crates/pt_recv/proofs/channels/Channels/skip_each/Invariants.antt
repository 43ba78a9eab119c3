use Rattle.std.proofs.Common.{◌≡◌, ◌+◌, drop, set}
use Rattle.pt_recv.specs.Lines.{list_at, spare_at}
use Rattle.pt_recv.proofs.channels.Channels.skip_each.Given as goal

abbrev pub invariant-loop : goal.invariant-loop
invariant-loop l = record {
  lists : l.self.lists ≡ set l.fn.self.lists l.c (drop l.counter (list_at l.fn.self.lists l.c));
  spares : l.self.spares ≡ set l.fn.self.spares l.c (spare_at l.fn.self.spares l.c + l.counter);
}
