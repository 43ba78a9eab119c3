use Rattle.std.proofs.Common.{◌≡◌, ◌+◌, ◌++◌, length, slice_set}
use Rattle.pt_recv.specs.Lines.{list_at}
use Rattle.pt_recv.proofs.channels.Channels.copy_line.Given as goal

abbrev pub invariant-loop-token : goal.invariant-loop-token
invariant-loop-token l = record {
  lists : l.copies.lists ≡ slice_set l.fn.copies.lists l.c (list_at l.copies.lists l.c);
  rest : list_at l.copies.lists l.c ++ l.token-iterator ≡ list_at l.self.lists l.c;
  spares : l.copies.spares ≡ slice_set l.fn.copies.spares l.c (length l.token-iterator + l.spare);
}
