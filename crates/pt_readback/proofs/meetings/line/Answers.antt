use Rattle.std.proofs.Common.{◌≡◌, ◌∙◌, sym, ap}
use Rattle.std.proofs.lemmas.Option.{none-some, same_Some}
use Rattle.pt_trace.specs.MeetingText.{count_of}
use Rattle.pt_readback.specs.Listed.{cut_three}
use Rattle.pt_readback.proofs.Listed.{same_fault}
use Rattle.pt_readback.proofs.Lines.{meeting_cut, met_cut}
use Rattle.pt_readback.proofs.meetings.line.Goals as goal

pub returns-in_default-clause-found : goal.returns-in_default-clause-found
returns-in_default-clause-found c = λ earlier l after h s e. absurd (none-some _ (c.in_default.ensures.parts ∙ meeting_cut (count_of l.firing earlier) l after c.args.text.now e))

pub returns-in_default-cut_three-clause-found : goal.returns-in_default-cut_three-clause-found
returns-in_default-cut_three-clause-found c = λ earlier l after h s e.
    let n = count_of l.firing earlier in
    let p = same_Some _ _ (c.in-Some.ensures.parts ∙ meeting_cut n l after c.args.text.now e) in
    absurd (none-some _ (c.in_default-cut_three.ensures.parts ∙ ap (λ r. cut_three 32 32 10 r.1) p ∙ met_cut n l.what after h.form))

pub returns-in_default-number-clause-found : goal.returns-in_default-number-clause-found
returns-in_default-number-clause-found c = λ earlier l after h s e.
    let n = count_of l.firing earlier in
    let p = same_Some _ _ (c.in-Some.ensures.parts ∙ meeting_cut n l after c.args.text.now e) in
    absurd (none-some _ (c.in_default-number.ensures.found l.firing h.fits.firing (sym (ap (λ r. r.0) p))))

pub returns-in_err-what-clause-found : goal.returns-in_err-what-clause-found
returns-in_err-what-clause-found c = λ earlier l after h s e.
    let n = count_of l.firing earlier in
    let p = same_Some _ _ (c.in-Some.ensures.parts ∙ meeting_cut n l after c.args.text.now e) in
    let q = same_Some _ _ (c.in-Some-cut_three.ensures.parts ∙ ap (λ r. cut_three 32 32 10 r.1) p ∙ met_cut n l.what after h.form) in
    same_fault _ c.from_residual.result c.in_err-what.field-0.0 (l, after) c.from_residual.ensures.1 (c.in_err-what.ensures.found l.what h.form h.fits.met (sym (ap (λ r. r.1) q)) (sym (ap (λ r. r.2) q)))

pub returns-clause-found : goal.returns-clause-found
returns-clause-found c = λ earlier l after h s e.
    let n = count_of l.firing earlier in
    let p = same_Some _ _ (c.in-Some.ensures.parts ∙ meeting_cut n l after c.args.text.now e) in
    let q = same_Some _ _ (c.in-Some-cut_three.ensures.parts ∙ ap (λ r. cut_three 32 32 10 r.1) p ∙ met_cut n l.what after h.form) in
    let a = same_Some _ _ (c.in-Some-number.ensures.found l.firing h.fits.firing (sym (ap (λ r. r.0) p))) in
    let b = c.in_ok-what.ensures.found l.what h.form h.fits.met (sym (ap (λ r. r.1) q)) (sym (ap (λ r. r.2) q)) in
    let d = ap (λ r. r.3) q in
    λ i. (record { firing = a i; what = b i }, d i)
