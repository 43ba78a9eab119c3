use Rattle.std.proofs.Common.{◌≡◌, ◌+◌, ◌≤◌, ◌++◌, length}
use Rattle.std.specs.Prelude.{vec_capacity}
use Rattle.std.specs.VecDeque.{deque_capacity}
use Rattle.pt_lib_timed.specs.Pending.{due, left}
use Rattle.pt_lib_timed.proofs.pending.sift.Given as goal

abbrev pub invariant-loop-event : goal.invariant-loop-event
invariant-loop-event l = record {
  tokens : l.given.items ++ due l.tag l.events.items ≡ due l.tag l.fn.events.items;
  left : l.kept.items ++ left l.tag l.events.items ≡ left l.tag l.fn.events.items;
  room : length l.kept.items + length l.events.items ≤ deque_capacity l.kept;
  given : length l.given.items + length l.events.items ≤ vec_capacity l.given;
}

abbrev pub decreases-loop-event : goal.decreases-loop-event
decreases-loop-event l = length l.events.items
