use Rattle.std.proofs.Common.{◌≡◌, ◌++◌, ◌∙◌, [], refl, sym, ap}
use Rattle.std.specs.Char.{is_ascii_digit}
use Rattle.pt_trace.specs.EndText.{end_text}
use Rattle.pt_readback.specs.Listed.{listed}
use Rattle.pt_readback.specs.Lines.{begins_trace, begins_meetings, say_meetings}
use Rattle.pt_readback.proofs.Listed.{same_fault}
use Rattle.pt_readback.proofs.Ends.{report_listed, meetings_front, end_front, run_traces, run_meetings}
use Rattle.pt_readback.proofs.report.candidate.Goals as goal

pub returns-in_err-traces-clause-found : goal.returns-in_err-traces-clause-found
returns-in_err-traces-clause-found c = λ v h e.
    let after = listed say_meetings [] v.meetings ++ end_text v.end in
    same_fault _ c.from_residual.result c.in_err-traces.field-0.0 v c.from_residual.ensures.1
    (c.in_err-traces.ensures.found v.traces after (run_traces v h) (meetings_front begins_trace refl refl refl v.meetings v.end) (meetings_front is_ascii_digit refl refl refl v.meetings v.end) (report_listed v ∙ e))

pub returns-in_err-meetings-clause-found : goal.returns-in_err-meetings-clause-found
returns-in_err-meetings-clause-found c = λ v h e.
    let after = listed say_meetings [] v.meetings ++ end_text v.end in
    let a = c.in_ok-traces.ensures.found v.traces after (run_traces v h) (meetings_front begins_trace refl refl refl v.meetings v.end) (meetings_front is_ascii_digit refl refl refl v.meetings v.end) (report_listed v ∙ e) in
    same_fault _ c.from_residual-in_err-meetings.result c.in_err-meetings.field-0.0 v c.from_residual-in_err-meetings.ensures.1
    (c.in_err-meetings.ensures.found v.meetings (end_text v.end) (run_meetings v h) (end_front begins_meetings refl refl v.end) (end_front is_ascii_digit refl refl v.end) (sym (ap (λ q. q.1) a)))

pub returns-in_err-end-clause-found : goal.returns-in_err-end-clause-found
returns-in_err-end-clause-found c = λ v h e.
    let after = listed say_meetings [] v.meetings ++ end_text v.end in
    let a = c.in_ok-traces.ensures.found v.traces after (run_traces v h) (meetings_front begins_trace refl refl refl v.meetings v.end) (meetings_front is_ascii_digit refl refl refl v.meetings v.end) (report_listed v ∙ e) in
    let b = c.in_ok-meetings.ensures.found v.meetings (end_text v.end) (run_meetings v h) (end_front begins_meetings refl refl v.end) (end_front is_ascii_digit refl refl v.end) (sym (ap (λ q. q.1) a)) in
    same_fault _ c.from_residual-in_err-end.result c.in_err-end.field-0.0 v c.from_residual-in_err-end.ensures.1 (c.in_err-end.ensures.found v.end h.formed.form.end h.formed.full h.fits.end (sym (ap (λ q. q.1) b)))

pub returns-clause-found : goal.returns-clause-found
returns-clause-found c = λ v h e.
    let after = listed say_meetings [] v.meetings ++ end_text v.end in
    let a = c.in_ok-traces.ensures.found v.traces after (run_traces v h) (meetings_front begins_trace refl refl refl v.meetings v.end) (meetings_front is_ascii_digit refl refl refl v.meetings v.end) (report_listed v ∙ e) in
    let b = c.in_ok-meetings.ensures.found v.meetings (end_text v.end) (run_meetings v h) (end_front begins_meetings refl refl v.end) (end_front is_ascii_digit refl refl v.end) (sym (ap (λ q. q.1) a)) in
    let d = c.in_ok-end.ensures.found v.end h.formed.form.end h.formed.full h.fits.end (sym (ap (λ q. q.1) b)) in
    λ i. record { traces = (a i).0; meetings = (b i).0; end = d i }
