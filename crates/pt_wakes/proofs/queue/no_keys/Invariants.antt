use Rattle.std.proofs.Common.{◌≡◌, replicate, None}
use Rattle.std.specs.Vec.{vec_len, vec_capacity}
use Rattle.pt_wakes.proofs.queue.no_keys.Given as goal

abbrev pub invariant-loop : goal.invariant-loop
invariant-loop l = (l.keys.items ≡ replicate l.counter None) × (vec_len l.keys ≡ l.counter) × (vec_capacity l.keys ≡ l.children)
