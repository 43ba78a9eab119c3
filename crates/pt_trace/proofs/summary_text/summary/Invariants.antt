use Rattle.std.proofs.Common.{◌≡◌, ◌++◌, take, flat_map}
use Rattle.pt_trace.specs.SummaryText.{trace_line}
use Rattle.pt_trace.proofs.summary_text.summary.Given as goal

abbrev pub invariant-loop-trace : goal.invariant-loop-trace
invariant-loop-trace l = l.out.items ≡ l.initial.out.items ++ flat_map trace_line (take l.trace-index l.trace-items)
