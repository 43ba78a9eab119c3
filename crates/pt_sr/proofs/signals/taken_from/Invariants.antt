use Rattle.std.proofs.Common.{◌≡◌, ◌+◌, ◌++◌, length, drop}
use Rattle.std.specs.Vec.{vec_len, vec_capacity}
use Rattle.pt_sr.proofs.signals.taken_from.Given as goal

abbrev pub invariant-loop-c : goal.invariant-loop-c
invariant-loop-c l = record {
  taken : l.outputs.items ++ drop l.c l.lists.items ≡ drop l.from l.fn.lists.items;
  counted : length l.lists.items ≡ length l.fn.lists.items;
  held : vec_len l.outputs + l.from ≡ l.c;
  room : vec_capacity l.outputs + l.from ≡ length l.fn.lists.items;
}
