use Rattle.std.proofs.Common.{◌≡◌, [], replicate}
use Rattle.pt_recv.proofs.channels.empty_runs.Given as goal

abbrev pub invariant-loop : goal.invariant-loop
invariant-loop l = l.runs.items ≡ replicate l.counter []
