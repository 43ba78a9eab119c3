use Rattle.std.proofs.Common.{◌≡◌, ℕ, None, length, get_or}
use Rattle.pt_machines.proofs.modals.no_machines.Given as goal

abbrev pub invariant-loop : goal.invariant-loop
invariant-loop l = record {
  counted : length l.machines.items ≡ l.counter;
  none : (m : ℕ) → get_or l.machines.items m None ≡ None;
}
