use Rattle.std.proofs.Common.{◌≡◌, [], replicate}
use Rattle.pt_reporting.proofs.reporting.blank_traces.Given as goal

abbrev pub invariant-loop : goal.invariant-loop
invariant-loop l = l.traces.items ≡ replicate l.counter (record { text = []; tokens = [] })
