use Rattle.std.proofs.Common.{◌≡◌, ℕ, [], length, get_or}
use Rattle.pt_puts.specs.Fans.{fans_in}
use Rattle.pt_rv_plan.proofs.fans.no_fans.Given as goal

abbrev pub invariant-loop : goal.invariant-loop
invariant-loop l = record {
  none : (i : ℕ) → get_or (fans_in l.fans.items) i [] ≡ [];
  counted : length l.fans.items ≡ l.counter;
}
