use Rattle.std.proofs.Common.{◌≡◌, ℕ, ◌<◌, [], length}
use Rattle.pt_meaning.specs.Streams.{at}
use Rattle.pt_process.proofs.renew.empty_row_again.Given as goal

abbrev pub invariant-loop-place : goal.invariant-loop-place
invariant-loop-place l = record {
  counted : length l.row.items ≡ length l.fn.row.items;
  empty : (q : ℕ) → q < l.place → at l.row.items q ≡ [];
}
