use Rattle.std.proofs.Common.{◌≡◌, ◌∙◌, sym, ap, subst}
use Rattle.std.proofs.lemmas.Option.{none-some, same_Some}
use Rattle.pt_trace.specs.declared.run_end.RunEnd.TheVariants.{Queue}
use Rattle.pt_trace.specs.ReportForm.{IsPath}
use Rattle.pt_readback.proofs.Listed.{same_fault}
use Rattle.pt_readback.proofs.Lines.{queue_cut}
use Rattle.pt_readback.proofs.ending.queue.Goals as goal

pub returns-in_default-clause-found : goal.returns-in_default-clause-found
returns-in_default-clause-found c = λ b h r e. absurd (none-some _ (c.in_default.ensures.parts ∙ queue_cut b c.args.text.now h e))

pub returns-in_err-path-clause-found : goal.returns-in_err-path-clause-found
returns-in_err-path-clause-found c = λ b h r e.
    let q = same_Some _ _ (c.in-Some.ensures.parts ∙ queue_cut b c.args.text.now h e) in
    same_fault _ c.from_residual.result c.in_err-path.field-0.0 (Queue b) c.from_residual.ensures.1 (c.in_err-path.ensures.found (subst IsPath (sym (ap (λ r. r.0) q)) h))

pub returns-clause-found : goal.returns-clause-found
returns-clause-found c = λ b h r e.
    let q = same_Some _ _ (c.in-Some.ensures.parts ∙ queue_cut b c.args.text.now h e) in
    let a = c.in_ok-path.ensures.found (subst IsPath (sym (ap (λ r. r.0) q)) h) ∙ ap (λ r. r.0) q in
    λ i. Queue (record { path = a i; channels = sym r i })

pub returns-clause-form : goal.returns-clause-form
returns-clause-form c = λ h. (record { path = c.in_ok-path.ensures.form; places = λ k d s. let p = h k d s in (p.place, p.form, p.is) }, h)
