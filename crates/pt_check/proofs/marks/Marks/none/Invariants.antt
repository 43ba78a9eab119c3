use Rattle.std.proofs.Common.{◌≡◌, replicate, false}
use Rattle.pt_check.proofs.marks.Marks.none.Given as goal

abbrev pub invariant-loop : goal.invariant-loop
invariant-loop l = l.marks.items ≡ replicate l.counter false
