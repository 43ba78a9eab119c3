use Rattle.std.proofs.Common.{◌≡◌, ◌+◌, replicate, []}
use Rattle.std.specs.Vec.{vec_len, vec_capacity}
use Rattle.pt_sdf_parts.specs.Feeds.{rows_in}
use Rattle.pt_sdf_parts.proofs.feeds.empty_rows.Given as goal

abbrev pub invariant-loop : goal.invariant-loop
invariant-loop l = (rows_in l.rows.items ≡ replicate l.counter []) × (vec_len l.rows ≡ l.counter) × (vec_capacity l.rows ≡ l.n + 1)
