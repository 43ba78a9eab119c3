-- The text of a report: the traces, the meetings, what is full, and the end.
use Rattle.std.specs.Prelude.{ℕ, List, ◌++◌, flat_map}
use Rattle.pt_trace.specs.Report.{Report}
use Rattle.pt_trace.specs.TraceText.{trace_text}
use Rattle.pt_trace.specs.MeetingText.{meetings_text}
use Rattle.pt_trace.specs.EndText.{end_text}

abbrev pub report_text : Report → List ℕ
report_text report = (flat_map trace_text report.traces ++ flat_map meetings_text report.meetings) ++ end_text report.end
