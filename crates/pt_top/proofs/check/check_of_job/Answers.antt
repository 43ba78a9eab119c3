use Rattle.std.proofs.Common.{subst}
use Rattle.pt_document.specs.declared.refusal.DocFault.{DocFault}
use Rattle.pt_document.specs.declared.refusal.DocFault.TheVariants.{Refused}
use Rattle.pt_document.specs.View.{job_view}
use Rattle.pt_net.specs.Stands.{IsFaultOf}
use Rattle.pt_top.specs.Outcome.{in_links}
use Rattle.pt_top.proofs.AnswerLaws.{net-of-document}
use Rattle.pt_top.proofs.CheckLaws.{net-checks, refused-checks}
use Rattle.pt_top.proofs.check.check_of_job.Goals as goal

-- the answer to the net of a job
pub returns-in-Ok : goal.returns-in-Ok
returns-in-Ok c = λ bytes is clean. net-checks bytes (job_view c.args.job.now) c.in-Ok.net is clean c.in-Ok.ensures.net c.in-Ok.ensures.accepted c.check_of_net.result c.check_of_net.ensures

pub check_of_net-requires : goal.check_of_net-requires
check_of_net-requires c = net-of-document c.requires.0 (job_view c.args.job.now) c.in-Ok.net c.requires.1 c.in-Ok.ensures.net c.in-Ok.ensures.accepted

-- the refusal stands in how the links join
pub returns-in-Err-Refused : goal.returns-in-Err-Refused
returns-in-Err-Refused c = λ bytes is clean.
    let job = job_view c.args.job.now in
    let refusal = c.in-Err-Refused.refusal in
    let stands : IsFaultOf job (Refused refusal) = subst (λ (f : DocFault). IsFaultOf job f) c.in-Err-Refused.field-0-is c.in-Err-Refused.ensures.refused in
    refused-checks bytes refusal c.refuse.result (in_links job is clean stands) c.refuse.ensures
