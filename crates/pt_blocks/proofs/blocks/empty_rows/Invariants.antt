use Rattle.std.proofs.Common.{◌≡◌}
use Rattle.std.specs.Vec.{vec_len, vec_capacity}
use Rattle.pt_blocks.proofs.blocks.empty_rows.Given as goal

abbrev pub invariant-loop : goal.invariant-loop
invariant-loop l = (vec_len l.rows ≡ l.counter) × (vec_capacity l.rows ≡ l.count)
