use Rattle.std.proofs.Common.{◌≡◌, List, ℕ, length, subst, ◌∙◌}
use Rattle.std.specs.Io.KnownBytes.{IsAtEnd}
use Rattle.pt_io.specs.Causes.{Rose}
use Rattle.pt_reply.specs.declared.form.Form.TheVariants as form
use Rattle.pt_top.specs.Outcome.{AnswersAs, IsFaultless, IsReported}
use Rattle.pt_top.proofs.AnswerLaws.{document-due, within-limit}
use Rattle.pt_top.proofs.Completeness.{complete-due}
use Rattle.pt_top.proofs.run.run_document.Goals as goal

-- what was read to its end has its answer
pub returns-in-Ok-clause-outcome : goal.returns-in-Ok-clause-outcome
returns-in-Ok-clause-outcome g c =
    let (due, text, answers, complete, tells) = c.finish_document.ensures in
    let (bytes, consumed, is, most, long) = c.in-Ok.ensures.taken in
    let short = within-limit (length bytes) most (λ e. absurd (let never = long.1 e in cc)) in
    let same : c.deref.result.now ≡ bytes = c.deref.ensures.value ∙ is in
    let answered = subst (λ (xs : List ℕ). AnswersAs form.Report xs c.args.budget due text) same answers in
    let is_due = document-due c.args.budget bytes (Rose (g.S.Source.faults c.args.source.now) (g.S.Source.faults c.read_all.new.source)) (IsAtEnd (g.S.Source.left c.read_all.new.source)) due text short c.in-Ok.ensures.ok answered in
    (due, text, bytes, consumed, is_due, tells)

-- a faultless document that was read to its end has its report
pub returns-in-Ok-clause-complete : goal.returns-in-Ok-clause-complete
returns-in-Ok-clause-complete g c = λ bytes known short faultless calm still.
    let (due, text, answers, complete, tells) = c.finish_document.ensures in
    let (read, consumed, is, most, long) = c.in-Ok.ensures.taken in
    let same : c.deref.result.now ≡ read = c.deref.ensures.value ∙ is in
    let reported = subst (λ (xs : List ℕ). IsFaultless xs c.args.budget → IsReported due) same complete in
    complete-due (λ xs. IsFaultless xs c.args.budget) (g.S.Source.left c.args.source.now) (g.S.Source.left c.read_all.new.source) read bytes (g.K.Sink.faults c.args.sink.now) (g.K.Sink.faults c.finish_document.new.sink)
    (g.K.Sink.taken c.args.sink.now) (g.K.Sink.taken c.finish_document.new.sink) due c.finish_document.result text consumed c.in-Ok.ensures.ok reported tells known faultless still
