use Rattle.std.proofs.Common.{◌≡◌, ◌-◌, length, take, drop, vec_capacity}
use Rattle.pt_de_parts.proofs.known.take_all.Given as goal

abbrev pub invariant-loop-channel : goal.invariant-loop-channel
invariant-loop-channel l = record {
  given : l.lists.items ≡ take (l.channel - l.first) (drop l.first l.fn.channels.lists);
  rest : drop l.channel l.channels.lists ≡ drop l.channel l.fn.channels.lists;
  long : length l.channels.lists ≡ length l.fn.channels.lists;
  room : vec_capacity l.lists ≡ vec_capacity l.fn.lists;
}
