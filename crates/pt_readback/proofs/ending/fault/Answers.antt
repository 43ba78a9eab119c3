use Rattle.std.proofs.Common.{◌≡◌, ◌∙◌, sym, ap, subst}
use Rattle.std.proofs.lemmas.Option.{none-some, same_Some}
use Rattle.pt_trace.specs.declared.run_end.RunEnd.TheVariants.{Fault}
use Rattle.pt_trace.specs.ReportForm.{IsPath}
use Rattle.pt_readback.proofs.Listed.{same_fault}
use Rattle.pt_readback.proofs.Lines.{fault_cut}
use Rattle.pt_readback.proofs.ending.fault.Goals as goal

pub returns-in_default-clause-found : goal.returns-in_default-clause-found
returns-in_default-clause-found c = λ p h n e. absurd (none-some _ (c.in_default.ensures.parts ∙ fault_cut p c.args.text.now h e))

pub returns-in_default-stuck-clause-found : goal.returns-in_default-stuck-clause-found
returns-in_default-stuck-clause-found c = λ p h n e.
    let q = same_Some _ _ (c.in-Some.ensures.parts ∙ fault_cut p c.args.text.now h e) in
    absurd (none-some _ (c.in_default-stuck.ensures p.kind p.firing n (sym (ap (λ r. r.0) q)) (sym (ap (λ r. r.2) q))))

pub returns-in_err-path-clause-found : goal.returns-in_err-path-clause-found
returns-in_err-path-clause-found c = λ p h n e.
    let q = same_Some _ _ (c.in-Some.ensures.parts ∙ fault_cut p c.args.text.now h e) in
    same_fault _ c.from_residual.result c.in_err-path.field-0.0 (Fault p) c.from_residual.ensures.1 (c.in_err-path.ensures.found (subst IsPath (sym (ap (λ r. r.1) q)) h))

pub returns-clause-found : goal.returns-clause-found
returns-clause-found c = λ p h n e.
    let q = same_Some _ _ (c.in-Some.ensures.parts ∙ fault_cut p c.args.text.now h e) in
    let a = c.in_ok-path.ensures.found (subst IsPath (sym (ap (λ r. r.1) q)) h) ∙ ap (λ r. r.1) q in
    let b = same_Some _ _ (c.in-Some-stuck.ensures p.kind p.firing n (sym (ap (λ r. r.0) q)) (sym (ap (λ r. r.2) q))) in
    λ i. Fault (record { path = a i; firing = (b i).1; kind = (b i).0 })
