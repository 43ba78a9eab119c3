use Rattle.std.proofs.Common.{◌≡◌, ℕ, [], length, get_or}
use Rattle.pt_wiring.proofs.inside.no_sources.Given as goal

abbrev pub invariant-loop : goal.invariant-loop
invariant-loop l = record {
  counted : length l.sources.items ≡ l.counter;
  empty : (c : ℕ) → get_or l.sources.items c [] ≡ [];
}
