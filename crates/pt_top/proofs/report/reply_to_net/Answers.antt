use Rattle.pt_node.specs.Shown.{shown_node}
use Rattle.pt_top.proofs.ReportLaws.{refused-over}
use Rattle.pt_top.proofs.report.reply_to_net.Goals as goal

pub returns-in-Ok-clause-answers : goal.returns-in-Ok-clause-answers
returns-in-Ok-clause-answers c = c.answer_model.ensures.answers

pub returns-in-Ok-clause-complete : goal.returns-in-Ok-clause-complete
returns-in-Ok-clause-complete c = λ affordable. c.answer_model.ensures.complete (affordable (shown_node c.in-Ok.model.top) c.in-Ok.model.job c.in-Ok.ensures.model)

pub answer_model-requires-clause-model : goal.answer_model-requires-clause-model
answer_model-requires-clause-model c = c.in-Ok.ensures.model

pub answer_model-requires-clause-runnable : goal.answer_model-requires-clause-runnable
answer_model-requires-clause-runnable c = c.in-Ok.ensures.runnable

pub answer_model-requires-clause-numbered : goal.answer_model-requires-clause-numbered
answer_model-requires-clause-numbered c = c.in-Ok.ensures.numbered

pub answer_model-requires-clause-budget : goal.answer_model-requires-clause-budget
answer_model-requires-clause-budget c = c.requires.budget

pub model_of-requires : goal.model_of-requires
model_of-requires c = c.requires.net

-- the refusal of the net stands
pub returns-in-Err-clause-answers : goal.returns-in-Err-clause-answers
returns-in-Err-clause-answers c = c.answer_fault.ensures.answers c.args.form c.args.net.now c.args.budget c.in-Err.ensures.stands

pub returns-in-Err-clause-complete : goal.returns-in-Err-clause-complete
returns-in-Err-clause-complete c = λ affordable. refused-over c.answer_fault.result c.answer_fault.ensures.refused
