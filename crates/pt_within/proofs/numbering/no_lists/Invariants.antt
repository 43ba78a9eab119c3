use Rattle.std.proofs.Common.{◌≡◌, ℕ, [], length, get_or}
use Rattle.pt_within.proofs.numbering.no_lists.Given as goal

abbrev pub invariant-loop : goal.invariant-loop
invariant-loop l = record {
  counted : length l.lists.items ≡ l.counter;
  empty : (k : ℕ) → get_or l.lists.items k [] ≡ [];
}
