use Rattle.std.proofs.Common.{◌≡◌, List, ℕ, length, subst, ◌∙◌}
use Rattle.std.specs.Io.KnownBytes.{IsAtEnd}
use Rattle.pt_io.specs.Causes.{Rose}
use Rattle.pt_top.specs.Outcome.{Checks, IsAccepted}
use Rattle.pt_top.proofs.AnswerLaws.{within-limit}
use Rattle.pt_top.proofs.CheckLaws.{check-due, check-reported}
use Rattle.pt_top.proofs.Completeness.{complete-due}
use Rattle.pt_top.proofs.check.check_document.Goals as goal

-- what was read to its end has its answer
pub returns-in-Ok-clause-outcome : goal.returns-in-Ok-clause-outcome
returns-in-Ok-clause-outcome g c =
    let (due, text, answers, tells) = c.finish_check.ensures in
    let (bytes, consumed, is, most, long) = c.in-Ok.ensures.taken in
    let short = within-limit (length bytes) most (λ e. absurd (let never = long.1 e in cc)) in
    let same : c.deref.result.now ≡ bytes = c.deref.ensures.value ∙ is in
    let answered = subst (λ (xs : List ℕ). Checks xs due text) same answers in
    let is_due = check-due bytes (Rose (g.S.Source.faults c.args.source.now) (g.S.Source.faults c.read_all.new.source)) (IsAtEnd (g.S.Source.left c.read_all.new.source)) due text short c.in-Ok.ensures.ok answered in
    (due, text, bytes, consumed, is_due, tells)

-- one that no refusal stands of is checked
pub returns-in-Ok-clause-complete : goal.returns-in-Ok-clause-complete
returns-in-Ok-clause-complete g c = λ bytes known short accepted calm still.
    let (due, text, answers, tells) = c.finish_check.ensures in
    let (read, consumed, is, most, long) = c.in-Ok.ensures.taken in
    let same : c.deref.result.now ≡ read = c.deref.ensures.value ∙ is in
    let answered = subst (λ (xs : List ℕ). Checks xs due text) same answers in
    complete-due IsAccepted (g.S.Source.left c.args.source.now) (g.S.Source.left c.read_all.new.source) read bytes (g.K.Sink.faults c.args.sink.now) (g.K.Sink.faults c.finish_check.new.sink)
    (g.K.Sink.taken c.args.sink.now) (g.K.Sink.taken c.finish_check.new.sink) due c.finish_check.result text consumed c.in-Ok.ensures.ok (check-reported read due text answered) tells known accepted still
