-- A report with each kind of line that has texts, worked by hand, and texts that are in no report.
use Rattle.std.specs.Prelude.{◌≡◌, [], ◌∷◌, codes}
use Rattle.pt_trace.specs.declared.meetings.Met.TheVariants.{Meet, Out, Barrier}
use Rattle.pt_trace.specs.declared.meetings.MeetingLine.{MeetingLine}
use Rattle.pt_trace.specs.declared.run_end.RunEnd.TheVariants.{Queue}
use Rattle.pt_trace.specs.Report.{Report}
use Rattle.pt_trace.specs.ReportText.{report_text}
use Rattle.pt_trace.specs.ReportForm.{HasForm, IsTrace, IsMeeting, IsPath}

abbrev pub at_place : MeetingLine
at_place = record { firing = 0; what = Meet (record { child = codes "S.m"; port = codes "input"; channel = 1 }) }

abbrev pub at_barrier : MeetingLine
at_barrier = record { firing = 0; what = Barrier (codes "b") }

abbrev pub at_output : MeetingLine
at_output = record { firing = 1; what = Out (codes "o") }

abbrev pub example : Report
example = record {
  traces = record { text = codes "S.k.output"; tokens = [] } ∷ [];
  meetings = record {
    path = codes ".";
    lines = at_place ∷ at_barrier ∷ at_output ∷ [];
  } ∷ [];
  end = Queue (record { path = codes "P"; channels = (codes "a.plus.0", 2) ∷ [] });
}

pub record FormExamples : Type 0 where
  pub formed : HasForm example
  pub told : report_text example ≡ codes "trace S.k.output\nmeetings .\n0 0 meet S.m.input.1\n0 1 barrier b\n1 0 out o\nfull a.plus.0 2\nend queue P 1\n"
  -- the top is no port, an output has a name, and a path isn't empty
  pub no_trace : IsTrace (record { text = codes "."; tokens = [] }) → ⊥
  pub no_output : IsMeeting (Out []) → ⊥
  pub no_path : IsPath [] → ⊥
