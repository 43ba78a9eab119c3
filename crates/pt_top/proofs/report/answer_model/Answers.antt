use Rattle.pt_top.proofs.ReportLaws.{run-answers, done-or-refused}
use Rattle.pt_top.proofs.report.answer_model.Goals as goal

pub returns-clause-answers : goal.returns-clause-answers
returns-clause-answers c = run-answers c.args.form c.args.net.now c.args.budget c.report_run-reply.result c.report_run-reply.ensures.report

pub returns-clause-complete : goal.returns-clause-complete
returns-clause-complete c = λ affordable. done-or-refused c.report_run-reply.result (c.report_run-reply.ensures.complete affordable)
