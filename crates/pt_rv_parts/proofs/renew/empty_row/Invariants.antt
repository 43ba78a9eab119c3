use Rattle.std.proofs.Common.{◌≡◌, ℕ, [], length}
use Rattle.pt_meaning.specs.Streams.{at}
use Rattle.pt_rv_parts.proofs.renew.empty_row.Given as goal

abbrev pub invariant-loop : goal.invariant-loop
invariant-loop l = record {
  counted : length l.row.items ≡ l.counter;
  empty : (q : ℕ) → at l.row.items q ≡ [];
}
