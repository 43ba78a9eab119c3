use Rattle.std.proofs.Common.{◌≡◌, [], replicate}
use Rattle.pt_process.proofs.renew.empty_row.Given as goal

abbrev pub invariant-loop : goal.invariant-loop
invariant-loop l = l.row.items ≡ replicate l.counter []
