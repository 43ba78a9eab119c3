use Rattle.std.proofs.Common.{◌≡◌, replicate, []}
use Rattle.std.specs.Vec.{vec_len, vec_capacity}
use Rattle.pt_transitions.proofs.lists.empty_lists.Given as goal

abbrev pub invariant-loop : goal.invariant-loop
invariant-loop l = (l.lists.items ≡ replicate l.counter []) × (vec_len l.lists ≡ l.counter) × (vec_capacity l.lists ≡ l.n)
