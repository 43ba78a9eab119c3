use Rattle.std.proofs.Common.{◌≡◌, take}
use Rattle.std.specs.VecDeque.{deque_capacity}
use Rattle.pt_recv.proofs.queue.Queue.copy.Given as goal

abbrev pub invariant-loop-k : goal.invariant-loop-k
invariant-loop-k l = (l.tokens.items ≡ take l.k l.self-inside.tokens.items) × (deque_capacity l.tokens ≡ deque_capacity l.self-inside.tokens)
