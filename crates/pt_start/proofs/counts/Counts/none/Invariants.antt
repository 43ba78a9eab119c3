use Rattle.std.proofs.Common.{◌≡◌, ℕ, length, get_or}
use Rattle.pt_start.proofs.counts.Counts.none.Given as goal

abbrev pub invariant-loop : goal.invariant-loop
invariant-loop l = record {
  counted : length l.counts.items ≡ l.counter;
  zeros : (i : ℕ) → get_or l.counts.items i 0 ≡ 0;
}
