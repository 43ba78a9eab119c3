use Rattle.std.proofs.Common.{◌≡◌, ◌≤◌, take, drop, set}
use Rattle.std.specs.Vec.{vec_capacity}
use Rattle.pt_recv.specs.Lines.{list_at}
use Rattle.pt_sdf_parts.proofs.gathering.take_first.Given as goal

abbrev pub invariant-loop : goal.invariant-loop
invariant-loop l = record {
  tokens : l.tokens.items ≡ take l.counter (list_at l.fn.channels.lists l.c);
  lists : l.channels.lists ≡ set l.fn.channels.lists l.c (drop l.counter (list_at l.fn.channels.lists l.c));
  room : l.n ≤ vec_capacity l.tokens;
}
