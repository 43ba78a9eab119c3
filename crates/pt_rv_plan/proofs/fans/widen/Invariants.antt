use Rattle.std.proofs.Common.{◌≡◌, ℕ, ◌≤◌, [], length, get_or}
use Rattle.pt_puts.specs.Fans.{row_in}
use Rattle.pt_rv_plan.proofs.fans.widen.Given as goal

abbrev pub invariant-loop : goal.invariant-loop
invariant-loop l = record {
  long : l.counter ≤ length l.row.items;
  same : (q : ℕ) → get_or (row_in l.row.items) q [] ≡ get_or (row_in l.fn.row.items) q [];
}
