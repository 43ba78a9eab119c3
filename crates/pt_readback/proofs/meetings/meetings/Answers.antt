use Rattle.std.proofs.Common.{◌≡◌, ◌∙◌, refl, sym, ap, subst}
use Rattle.std.proofs.lemmas.Option.{none-some, same_Some}
use Rattle.pt_trace.specs.ReportForm.{IsPath}
use Rattle.pt_readback.proofs.Listed.{same_fault}
use Rattle.pt_readback.proofs.Lines.{meetings_cut}
use Rattle.pt_readback.proofs.meetings.meetings.Goals as goal

pub returns-in_default-clause-found : goal.returns-in_default-clause-found
returns-in_default-clause-found c = λ earlier m after h s e. absurd (none-some _ (c.in_default.ensures.parts ∙ meetings_cut m after c.args.text.now h e))

pub returns-in_err-path-clause-found : goal.returns-in_err-path-clause-found
returns-in_err-path-clause-found c = λ earlier m after h s e.
    let q = same_Some _ _ (c.in-Some.ensures.parts ∙ meetings_cut m after c.args.text.now h e) in
    same_fault _ c.from_residual.result c.in_err-path.field-0.0 (m, after) c.from_residual.ensures.1 (c.in_err-path.ensures.found (subst IsPath (sym (ap (λ r. r.1) q)) h.path))

pub returns-in_err-lines-clause-found : goal.returns-in_err-lines-clause-found
returns-in_err-lines-clause-found c = λ earlier m after h s e.
    let q = same_Some _ _ (c.in-Some.ensures.parts ∙ meetings_cut m after c.args.text.now h e) in
    same_fault _ c.from_residual-in_err-lines.result c.in_err-lines.field-0.0 (m, after) c.from_residual-in_err-lines.ensures.1 (c.in_err-lines.ensures.found m.lines after h.lines s refl (sym (ap (λ r. r.2) q)))

pub returns-clause-found : goal.returns-clause-found
returns-clause-found c = λ earlier m after h s e.
    let q = same_Some _ _ (c.in-Some.ensures.parts ∙ meetings_cut m after c.args.text.now h e) in
    let a = c.in_ok-path.ensures.found (subst IsPath (sym (ap (λ r. r.1) q)) h.path) ∙ ap (λ r. r.1) q in
    let b = c.in_ok-lines.ensures.found m.lines after h.lines s refl (sym (ap (λ r. r.2) q)) in
    λ i. (record { path = a i; lines = (b i).0 }, (b i).1)
