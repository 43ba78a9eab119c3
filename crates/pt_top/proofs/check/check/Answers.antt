use Rattle.std.proofs.Common.{subst}
use Rattle.pt_document.specs.declared.refusal.DocFault.{DocFault}
use Rattle.pt_document.specs.declared.refusal.DocFault.TheVariants.{Refused}
use Rattle.pt_moml.specs.Stands.{FaultStands}
use Rattle.pt_top.specs.Outcome.{in_text}
use Rattle.pt_top.proofs.CheckLaws.{refused-checks}
use Rattle.pt_top.proofs.check.check.Goals as goal

-- the answer to the job of a document
pub returns-in-Ok : goal.returns-in-Ok
returns-in-Ok c = c.check_of_job.ensures c.args.bytes.now c.in-Ok.ensures.job c.in-Ok.ensures.clean

-- the job is that of these bytes
pub check_of_job-requires : goal.check_of_job-requires
check_of_job-requires c = (c.args.bytes.now, c.in-Ok.ensures.job)

-- the refusal stands in the text
pub returns-in-Err-Refused : goal.returns-in-Err-Refused
returns-in-Err-Refused c =
    let bytes = c.args.bytes.now in
    let refusal = c.in-Err-Refused.refusal in
    let stands : FaultStands bytes (Refused refusal) = subst (λ (f : DocFault). FaultStands bytes f) c.in-Err-Refused.field-0-is c.in-Err-Refused.ensures.refused in
    refused-checks bytes refusal c.refuse.result (in_text stands) c.refuse.ensures
