use Rattle.std.proofs.Common.{◌≡◌, take}
use Rattle.std.specs.VecDeque.{deque_capacity}
use Rattle.pt_lib_timed.proofs.pending.Pending.copy.Given as goal

abbrev pub invariant-loop-k : goal.invariant-loop-k
invariant-loop-k l = (l.events.items ≡ take l.k l.self-inside.events.items) × (deque_capacity l.events ≡ deque_capacity l.self-inside.events)
