use Rattle.std.proofs.Common.{◌≡◌, sym, subst, IfErr, rules}
use Rattle.std.proofs.lemmas.Result.{IfErr-weaker}
use Rattle.pt_typing.specs.Least.{assignment}
use Rattle.pt_document.specs.declared.refusal.DocFault.{DocFault}
use Rattle.pt_elaboration.specs.Refused.{FaultStands}
use Rattle.pt_elaboration.proofs.FaultLaws.{inputs-stand}
use Rattle.pt_elaboration.specs.Begun.{starts_in}
use Rattle.pt_elaboration.proofs.jobs.de_job.Goals as goal

pub returns-in_err-inputs-clause-stands : goal.returns-in_err-inputs-clause-stands
returns-in_err-inputs-clause-stands c =
    let net = c.args.net.now in
    let s = c.args.started.now in
    let fault = c.in_err-inputs.field-0.0 in
    let told : FaultStands net fault = inputs-stand net s.values (assignment s.typing) (starts_in s) c.requires.built.0 fault c.requires.started c.requires.built.1 c.in_err-inputs.ensures.told in
    let h = c.from_residual.ensures in
    let same : IfErr c.from_residual.result (λ (f : DocFault). f ≡ fault) = search (rules, h) in
    IfErr-weaker c.from_residual.result (λ (f : DocFault). f ≡ fault) (FaultStands net) (λ f e. subst (λ (v : DocFault). FaultStands net v) (sym e) told) same
