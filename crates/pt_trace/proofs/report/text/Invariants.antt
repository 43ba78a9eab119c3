use Rattle.std.proofs.Common.{◌≡◌, ◌++◌, take, flat_map}
use Rattle.pt_trace.specs.TraceText.{trace_text}
use Rattle.pt_trace.specs.MeetingText.{meetings_text}
use Rattle.pt_trace.proofs.report.text.Given as goal

abbrev pub invariant-loop-trace : goal.invariant-loop-trace
invariant-loop-trace l = l.out.items ≡ flat_map trace_text (take l.trace-index l.trace-items)

abbrev pub invariant-loop-meetings : goal.invariant-loop-meetings
invariant-loop-meetings l = l.out.items ≡ l.initial.out.items ++ flat_map meetings_text (take l.meetings-index l.meetings-items)
