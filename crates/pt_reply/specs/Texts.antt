-- The texts of answers: of a refusal, and of a run.
use Rattle.std.specs.Prelude.{ℕ, List, [], ◌∷◌, ◌++◌, codes, decimal}
use Rattle.pt_document.specs.declared.refusal.Refusal.{Refusal}
use Rattle.pt_document.specs.Codes.{code_number, code_name}
use Rattle.pt_trace.specs.Report.{Meetings, Report}
use Rattle.pt_trace.specs.ReportText.{report_text}
use Rattle.pt_trace.specs.SummaryText.{summary_text}
use Rattle.pt_reply.specs.declared.form.Form.{Form}
use Rattle.pt_reply.specs.declared.form.Form.TheVariants as form

abbrev pub line : List ℕ → List ℕ
line text = text ++ 10 ∷ []

-- the line of a refusal: its code's number and name, and the path at which it stands
abbrev pub refusal_text : Refusal → List ℕ
refusal_text r = codes "refused " ++ (decimal (code_number r.code) ++ (codes " " ++ (code_name r.code ++ (codes " " ++ line r.path))))

-- a report with other lists of meetings
abbrev pub with_meetings : Report → List Meetings → Report
with_meetings report meetings = record { traces = report.traces; meetings = meetings; end = report.end }

-- what is written of a run that made so many firings and has this report: the report, or a summary of it
abbrev pub text_in : Form → (firings : ℕ) → Report → List ℕ
text_in form.Report firings report = report_text report
text_in form.Summary firings report = summary_text firings report
