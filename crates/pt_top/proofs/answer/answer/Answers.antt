use Rattle.pt_document.specs.View.{job_view}
use Rattle.pt_top.proofs.AnswerLaws.{job-answers, never-refused}
use Rattle.pt_top.proofs.answer.answer.Goals as goal

-- the answer to the job of a document
pub returns-in-Ok-clause-answers : goal.returns-in-Ok-clause-answers
returns-in-Ok-clause-answers c = job-answers c.args.form c.args.bytes.now (job_view c.in-Ok.job) c.args.budget c.answer_job-reply.result c.in-Ok.ensures.job c.in-Ok.ensures.clean c.answer_job-reply.ensures.answers

-- the net of a faultless document is that of its job
pub returns-in-Ok-clause-complete : goal.returns-in-Ok-clause-complete
returns-in-Ok-clause-complete c = λ faultless.
    let job = job_view c.in-Ok.job in
    let over = c.answer_job-reply.ensures.complete (λ net is linked. faultless.affordable job net (record { is_job = c.in-Ok.ensures.job; is_net = is; well_formed = c.in-Ok.ensures.clean; well_linked = linked })) in
    never-refused c.args.form c.args.bytes.now c.args.budget c.answer_job-reply.result faultless (returns-in-Ok-clause-answers c) over

-- the job is that of these bytes
pub answer_job-reply-requires-clause-job : goal.answer_job-reply-requires-clause-job
answer_job-reply-requires-clause-job c = (c.args.bytes.now, c.in-Ok.ensures.job)
