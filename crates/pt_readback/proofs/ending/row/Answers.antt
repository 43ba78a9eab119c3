use Rattle.std.proofs.Common.{◌≡◌, ◌∙◌, sym, ap, subst}
use Rattle.std.proofs.lemmas.Option.{none-some, same_Some}
use Rattle.pt_readback.specs.Report.{IsShortPlace}
use Rattle.pt_readback.proofs.Listed.{same_fault}
use Rattle.pt_readback.proofs.Lines.{row_cut}
use Rattle.pt_readback.proofs.ending.row.Goals as goal

pub returns-in_default-clause-found : goal.returns-in_default-clause-found
returns-in_default-clause-found c = λ earlier row after h s e. absurd (none-some _ (c.in_default.ensures.parts ∙ row_cut row after c.args.text.now h e))

pub returns-in_default-number-clause-found : goal.returns-in_default-number-clause-found
returns-in_default-number-clause-found c = λ earlier row after h s e.
    let q = same_Some _ _ (c.in-Some.ensures.parts ∙ row_cut row after c.args.text.now h e) in
    absurd (none-some _ (c.in_default-number.ensures.found row.1 h.length (sym (ap (λ r. r.2) q))))

pub returns-in_err-channel-clause-found : goal.returns-in_err-channel-clause-found
returns-in_err-channel-clause-found c = λ earlier row after h s e.
    let q = same_Some _ _ (c.in-Some.ensures.parts ∙ row_cut row after c.args.text.now h e) in
    same_fault _ c.from_residual.result c.in_err-channel.field-0.0 (row, after) c.from_residual.ensures.1 (c.in_err-channel.ensures.found (subst IsShortPlace (sym (ap (λ r. r.1) q)) h.place))

pub returns-clause-found : goal.returns-clause-found
returns-clause-found c = λ earlier row after h s e.
    let q = same_Some _ _ (c.in-Some.ensures.parts ∙ row_cut row after c.args.text.now h e) in
    let a = c.in_ok-channel.ensures.found (subst IsShortPlace (sym (ap (λ r. r.1) q)) h.place) ∙ ap (λ r. r.1) q in
    let b = same_Some _ _ (c.in-Some-number.ensures.found row.1 h.length (sym (ap (λ r. r.2) q))) in
    let d = ap (λ r. r.3) q in
    λ i. ((a i, b i), d i)
