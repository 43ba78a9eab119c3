use Rattle.std.proofs.Common.{length}
use Rattle.std.specs.Char.{is_ascii_digit}
use Rattle.pt_trace.specs.ReportForm.{IsTrace}
use Rattle.pt_readback.specs.Lines.{IsRunTrace, begins_trace, say_trace}
use Rattle.pt_readback.specs.Listed.{SoFar}
use Rattle.pt_readback.proofs.traces.traces.Given as goal

abbrev pub invariant-loop-alloc : goal.invariant-loop-alloc
invariant-loop-alloc l = SoFar say_trace IsRunTrace IsTrace begins_trace is_ascii_digit l.fn.text l.traces.items l.rest

abbrev pub decreases-loop-alloc : goal.decreases-loop-alloc
decreases-loop-alloc l = length l.rest
