-- Reports, told apart by their parts.
use Rattle.std.specs.Prelude.{ℕ, List, refl}
use Rattle.std.specs.Coded.{Coded, code_by, coded_list, coded_ℕ, coded×}
use Rattle.pt_meaning.specs.Basics.{Tag}
use Rattle.pt_value.specs.declared.token.Token.{Token}
use Rattle.pt_value.specs.Token.{coded_token}
use Rattle.pt_trace.specs.declared.meetings.Met.{Met}
use Rattle.pt_trace.specs.declared.meetings.MeetingLine.{MeetingLine}
use Rattle.pt_trace.specs.declared.run_end.RunEnd.{RunEnd}
use Rattle.pt_trace.specs.contracts.meetings.Met as met
use Rattle.pt_trace.specs.contracts.run_end.RunEnd as run_end
use Rattle.pt_trace.specs.Report.{Trace, Meetings, Report}

abbrev coded_tag : Coded Tag
coded_tag = code_by (ℕ × ℕ) (coded× coded_ℕ coded_ℕ) (λ t. (t.time, t.step)) (λ p. record { time = p.0; step = p.1 }) (λ _. refl)

abbrev coded_line : Coded MeetingLine
coded_line = code_by (ℕ × Met) (coded× coded_ℕ met.the_row.coded) (λ l. (l.firing, l.what)) (λ p. record { firing = p.0; what = p.1 }) (λ _. refl)

abbrev pub coded_trace : Coded Trace
coded_trace = code_by (List ℕ × List (Tag × Token)) (coded× (coded_list coded_ℕ) (coded_list (coded× coded_tag coded_token))) (λ t. (t.text, t.tokens)) (λ p. record { text = p.0; tokens = p.1 }) (λ _. refl)

abbrev pub coded_meetings : Coded Meetings
coded_meetings = code_by (List ℕ × List MeetingLine) (coded× (coded_list coded_ℕ) (coded_list coded_line)) (λ m. (m.path, m.lines)) (λ p. record { path = p.0; lines = p.1 }) (λ _. refl)

abbrev parts : Report → List Trace × (List Meetings × RunEnd)
parts r = (r.traces, (r.meetings, r.end))

abbrev pub coded_report : Coded Report
coded_report = code_by (List Trace × (List Meetings × RunEnd)) (coded× (coded_list coded_trace) (coded× (coded_list coded_meetings) run_end.the_row.coded)) parts (λ p. record { traces = p.0; meetings = p.1.0; end = p.1.1 }) (λ _. refl)
