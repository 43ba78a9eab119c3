-- A report from its parts, and what a run and a refusal answer.
use Rattle.std.proofs.Common.{◌≡◌, ◌⊎◌, inl, inr, ℕ, List, length, Result, Ok, Err, IfOk, ap, sym, subst, ◌∙◌}
use Rattle.std.specs.declared.alloc.AllocError.{AllocError}
use Rattle.pt_document.specs.declared.refusal.Refusal.{Refusal}
use Rattle.pt_net.specs.declared.net.Net.{Net}
use Rattle.pt_trace.specs.declared.run_end.RunEnd.{RunEnd}
use Rattle.pt_trace.specs.Report.{Trace, Meetings, Report}
use Rattle.pt_node.specs.Shown.{Shown}
use Rattle.pt_trees.specs.declared.ended.Ended.{Ended}
use Rattle.pt_trees.specs.Ports.{recorded_ports, told_of}
use Rattle.pt_trees.specs.Report.{end_of}
use Rattle.pt_elaboration.specs.Refused.{IsRefused}
use Rattle.pt_trees.specs.declared.ended.Ended.TheVariants as ended
use Rattle.pt_reply.specs.declared.form.Form.{Form}
use Rattle.pt_reply.specs.declared.reply.Reply.{Reply}
use Rattle.pt_reply.specs.declared.status.Status.{Status}
use Rattle.pt_reply.specs.declared.status.Status.TheVariants.{Done, Document}
use Rattle.pt_reply.specs.Texts.{refusal_text}
use Rattle.pt_top.specs.Reply.{status_of, report_of, IsReport, AnswersNet}

made : List Trace → List Meetings → RunEnd → Report
made traces meetings end = record { traces = traces; meetings = meetings; end = end }

pub same-report : (net : Net) (lists : List Meetings) (top : Shown) (e : Ended) (count : ℕ) (r : Report) → count ≡ length net.recorded.items → r.traces ≡ told_of (recorded_ports count top) → r.meetings ≡ lists → r.end ≡ end_of e → r ≡ report_of net lists top e
unfolding made
same-report net lists top e count r counted traces meetings end =
    let told = told_of (recorded_ports (length net.recorded.items) top) in
    ap (λ ts. made ts r.meetings r.end) (traces ∙ ap (λ n. told_of (recorded_ports n top)) counted) ∙ ap (λ ms. made told ms r.end) meetings ∙ ap (λ x. made told lists x) end

-- what is told of a run answers its net, by how it ended
told-answers : (f : Form) (net : Net) (budget : ℕ) (e : Ended) (s : Status) (text : List ℕ) → s ≡ status_of e → IsReport f net budget s text → AnswersNet f net budget s text
told-answers f net budget ended.Iterations s text e r = subst (λ x. AnswersNet f net budget x text) (sym e) (subst (λ x. IsReport f net budget x text) e r)
told-answers f net budget ended.Inputs s text e r = subst (λ x. AnswersNet f net budget x text) (sym e) (subst (λ x. IsReport f net budget x text) e r)
told-answers f net budget ended.Stop s text e r = subst (λ x. AnswersNet f net budget x text) (sym e) (subst (λ x. IsReport f net budget x text) e r)
told-answers f net budget ended.Idle s text e r = subst (λ x. AnswersNet f net budget x text) (sym e) (subst (λ x. IsReport f net budget x text) e r)
told-answers f net budget ended.Deadlock s text e r = subst (λ x. AnswersNet f net budget x text) (sym e) (subst (λ x. IsReport f net budget x text) e r)
told-answers f net budget (ended.Fault place) s text e r = subst (λ x. AnswersNet f net budget x text) (sym e) (subst (λ x. IsReport f net budget x text) e r)
told-answers f net budget (ended.Full blocked) s text e r = subst (λ x. AnswersNet f net budget x text) (sym e) (subst (λ x. IsReport f net budget x text) e r)
told-answers f net budget (ended.Spent n) s text e r = subst (λ x. AnswersNet f net budget x text) (sym e) (subst (λ x. IsReport f net budget x text) e r)

pub run-answers : (f : Form) (net : Net) (budget : ℕ) (reply : Result Reply AllocError) → IfOk reply (λ r. IsReport f net budget r.status r.text.items) → IfOk reply (λ r. AnswersNet f net budget r.status r.text.items)
run-answers f net budget (Ok r) h = told-answers f net budget h.ended r.status r.text.items h.told h
run-answers f net budget (Err e) h = tt

-- a run that is done is done or refused
pub done-or-refused : (reply : Result Reply AllocError) → IfOk reply (λ r. r.status ≡ Done) → IfOk reply (λ r. (r.status ≡ Done) ⊎ (r.status ≡ Document))
done-or-refused (Ok r) h = inl h
done-or-refused (Err e) h = tt

-- and so is a refusal
pub refused-over : (reply : Result Reply AllocError) → IfOk reply (λ r. r.status ≡ Document) → IfOk reply (λ r. (r.status ≡ Done) ⊎ (r.status ≡ Document))
refused-over (Ok r) h = inr h
refused-over (Err e) h = tt

-- a refusal of a net answers it
pub refusal-answers : (f : Form) (net : Net) (budget : ℕ) (why : Refusal) (reply : Result Reply AllocError) → IfOk reply (λ r. (r.status ≡ Document) × (r.text.items ≡ refusal_text why)) → IsRefused net why → IfOk reply (λ r. AnswersNet f net budget r.status r.text.items)
refusal-answers f net budget why (Ok r) h stands = subst (λ s. AnswersNet f net budget s r.text.items) (sym h.0) (why, stands, h.1)
refusal-answers f net budget why (Err e) h stands = tt
