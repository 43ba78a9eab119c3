use Rattle.std.proofs.Common.{◌≡◌, ◌∙◌, refl, sym, ap, subst}
use Rattle.std.proofs.lemmas.Option.{none-some, same_Some}
use Rattle.pt_trace.specs.ReportForm.{AreNames}
use Rattle.pt_readback.proofs.Listed.{same_fault}
use Rattle.pt_readback.proofs.Lines.{trace_cut}
use Rattle.pt_readback.proofs.traces.trace.Goals as goal

pub returns-in_default-clause-found : goal.returns-in_default-clause-found
returns-in_default-clause-found c = λ earlier t after h s e. absurd (none-some _ (c.in_default.ensures.parts ∙ trace_cut t after c.args.text.now h e))

pub returns-in_err-text-clause-found : goal.returns-in_err-text-clause-found
returns-in_err-text-clause-found c = λ earlier t after h s e.
    let q = same_Some _ _ (c.in-Some.ensures.parts ∙ trace_cut t after c.args.text.now h e) in
    same_fault _ c.from_residual.result c.in_err-text.field-0.0 (t, after) c.from_residual.ensures.1 (c.in_err-text.ensures.found (subst AreNames (sym (ap (λ r. r.1) q)) h.form))

pub returns-in_err-tokens-clause-found : goal.returns-in_err-tokens-clause-found
returns-in_err-tokens-clause-found c = λ earlier t after h s e.
    let q = same_Some _ _ (c.in-Some.ensures.parts ∙ trace_cut t after c.args.text.now h e) in
    same_fault _ c.from_residual-in_err-tokens.result c.in_err-tokens.field-0.0 (t, after) c.from_residual-in_err-tokens.ensures.1 (c.in_err-tokens.ensures.found t.tokens after h.tokens s refl (sym (ap (λ r. r.2) q)))

pub returns-clause-found : goal.returns-clause-found
returns-clause-found c = λ earlier t after h s e.
    let q = same_Some _ _ (c.in-Some.ensures.parts ∙ trace_cut t after c.args.text.now h e) in
    let a = c.in_ok-text.ensures.found (subst AreNames (sym (ap (λ r. r.1) q)) h.form) ∙ ap (λ r. r.1) q in
    let b = c.in_ok-tokens.ensures.found t.tokens after h.tokens s refl (sym (ap (λ r. r.2) q)) in
    let tokens = c.of-tokens.ensures ∙ ap (λ r. r.0) b in
    λ i. (record { text = a i; tokens = tokens i }, (b i).1)
