use Rattle.std.proofs.Common.{◌≡◌, ◌-◌, ◌++◌, [], length, take, replicate}
use Rattle.pt_recv.proofs.channels.Channels.copy.Given as goal

abbrev pub invariant-loop-c : goal.invariant-loop-c
invariant-loop-c l = record {
  channels : length l.self.lists ≡ l.c-end;
  rooms : length l.self.spares ≡ l.c-end;
  lists : l.copies.lists ≡ take l.c l.self.lists ++ replicate (l.c-end - l.c) [];
  spares : l.copies.spares ≡ take l.c l.self.spares ++ replicate (l.c-end - l.c) 0;
}
