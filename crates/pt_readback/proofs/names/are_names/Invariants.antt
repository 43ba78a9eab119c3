use Rattle.std.proofs.Common.{length}
use Rattle.pt_trace.specs.ReportForm.{AreNames}
use Rattle.pt_readback.proofs.names.are_names.Given as goal

abbrev pub invariant-loop-first : goal.invariant-loop-first
invariant-loop-first l = (AreNames l.fn.text → AreNames l.rest) × (AreNames l.rest → AreNames l.fn.text)

abbrev pub decreases-loop-first : goal.decreases-loop-first
decreases-loop-first l = length l.rest
