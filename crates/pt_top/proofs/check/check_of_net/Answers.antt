use Rattle.pt_reply.specs.declared.form.Form.TheVariants as form
use Rattle.pt_top.proofs.CheckLaws.{fault-checks}
use Rattle.pt_top.proofs.check.check_of_net.Goals as goal

pub returns-in-Ok : goal.returns-in-Ok
returns-in-Ok c = c.told.ensures c.args.net.now c.in-Ok.ensures.facts

-- the refusal of the net stands
pub returns-in-Err : goal.returns-in-Err
returns-in-Err c = fault-checks c.args.net.now c.answer_fault.result (c.answer_fault.ensures.answers form.Report c.args.net.now 0 c.in-Err.ensures.stands) c.answer_fault.ensures.refused
