use Rattle.std.proofs.Common.{◌≡◌, IfOk, subst, ◌∙◌}
use Rattle.pt_reply.specs.declared.form.Form.TheVariants.{Summary}
use Rattle.pt_reply.specs.declared.status.Status.TheVariants.{Done}
use Rattle.pt_top.specs.Outcome.{AnswersAs, IsFaultless}
use Rattle.pt_top.proofs.generated.demonstration.Goals as goal

-- the bytes are those of the generated document
pub returns-clause-answers : goal.returns-clause-answers
returns-clause-answers c = subst (λ xs. IfOk c.answer-reply.result (λ r. AnswersAs Summary xs c.args.budget r.status r.text.items)) (c.deref.ensures.value ∙ c.in_ok-bytes.ensures) c.answer-reply.ensures.answers

pub returns-clause-complete : goal.returns-clause-complete
returns-clause-complete c = subst (λ xs. IsFaultless xs c.args.budget → IfOk c.answer-reply.result (λ r. r.status ≡ Done)) (c.deref.ensures.value ∙ c.in_ok-bytes.ensures) c.answer-reply.ensures.complete
