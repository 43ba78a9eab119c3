use Rattle.std.proofs.Common.{subst}
use Rattle.pt_elaboration.specs.Refused.{FaultStands}
use Rattle.pt_top.proofs.ReportLaws.{refusal-answers}
use Rattle.pt_top.proofs.report.answer_fault.Goals as goal

pub returns-in-Refused-clause-answers : goal.returns-in-Refused-clause-answers
returns-in-Refused-clause-answers c = λ form net budget stands.
    refusal-answers form net budget c.in-Refused.refusal c.refuse.result c.refuse.ensures (subst (λ fault. FaultStands net fault) c.in-Refused.is stands)

pub returns-in-Memory-clause-answers : goal.returns-in-Memory-clause-answers
returns-in-Memory-clause-answers c = λ form net budget stands. tt
