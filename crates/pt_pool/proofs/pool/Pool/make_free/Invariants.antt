use Rattle.std.proofs.Common.{◌≡◌, ◌+◌}
use Rattle.pt_pool.proofs.pool.Pool.make_free.Given as goal

abbrev pub invariant-loop : goal.invariant-loop
invariant-loop g l = l.self.lists ≡ l.fn.self.lists ×
    (l.self.spares ≡ l.fn.self.spares) ×
    (l.self.unreserved ≡ l.fn.self.unreserved + l.counter)
