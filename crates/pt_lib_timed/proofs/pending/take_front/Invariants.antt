use Rattle.std.proofs.Common.{◌≡◌, ◌+◌, ◌≤◌, ◌++◌, length}
use Rattle.std.specs.Prelude.{vec_capacity}
use Rattle.pt_lib_timed.specs.Pending.{due, left}
use Rattle.pt_lib_timed.specs.PendingStore.{IsAscending}
use Rattle.pt_lib_timed.proofs.pending.take_front.Given as goal

abbrev pub invariant-loop-token : goal.invariant-loop-token
invariant-loop-token l = record {
  ascending : IsAscending l.events.items;
  tokens : l.given.items ++ due l.tag l.events.items ≡ due l.tag l.fn.events.items;
  left : left l.tag l.events.items ≡ left l.tag l.fn.events.items;
  room : length l.given.items + length (due l.tag l.events.items) ≤ vec_capacity l.given;
}

abbrev pub decreases-loop-token : goal.decreases-loop-token
decreases-loop-token l = length (due l.tag l.events.items)
