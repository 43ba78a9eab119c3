use Rattle.std.proofs.Common.{◌≡◌, ℕ, ◌+◌, ◌<◌, ◌≤◌, length, take}
use Rattle.pt_puts.specs.Puts.{puts_in}
use Rattle.pt_rv.specs.Parties.{outputs_of, weight_of, on, spare_at}
use Rattle.pt_rv.proofs.ends.promise_all.Given as goal

abbrev pub invariant-loop-put : goal.invariant-loop-put
invariant-loop-put l = record {
  lists : outputs_of l.outlets.items ≡ outputs_of l.fn.outlets.items;
  kept : (o : ℕ) → spare_at l.fn.outlets.items o ≤ spare_at l.outlets.items o;
  more : (o : ℕ) → o < length l.fn.outlets.items → spare_at l.fn.outlets.items o + weight_of (on (l.inner + o)) (puts_in (take l.put l.staged.items)) ≤ spare_at l.outlets.items o;
}
