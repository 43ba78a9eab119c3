use Rattle.pt_document.specs.View.{job_view}
use Rattle.pt_top.proofs.AnswerLaws.{net-answers, net-of-document}
use Rattle.pt_top.proofs.answer.answer_job.Goals as goal

-- the answer to the net of a job
pub returns-in-Ok-clause-answers : goal.returns-in-Ok-clause-answers
returns-in-Ok-clause-answers c = net-answers c.args.form (job_view c.args.job.now) c.in-Ok.net c.args.budget c.reply_to_net-reply.result c.in-Ok.ensures.net c.in-Ok.ensures.accepted c.reply_to_net-reply.ensures.answers

pub returns-in-Ok-clause-complete : goal.returns-in-Ok-clause-complete
returns-in-Ok-clause-complete c = λ affordable. c.reply_to_net-reply.ensures.complete (affordable c.in-Ok.net c.in-Ok.ensures.net c.in-Ok.ensures.accepted)

pub reply_to_net-reply-requires-clause-net : goal.reply_to_net-reply-requires-clause-net
reply_to_net-reply-requires-clause-net c = net-of-document c.requires.job.0 (job_view c.args.job.now) c.in-Ok.net c.requires.job.1 c.in-Ok.ensures.net c.in-Ok.ensures.accepted
