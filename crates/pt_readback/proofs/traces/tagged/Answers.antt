use Rattle.std.proofs.Common.{◌≡◌, ◌∙◌, length, sym, ap}
use Rattle.std.proofs.lemmas.Option.{none-some, same_Some}
use Rattle.pt_value.specs.Token.{value_of, same_token}
use Rattle.pt_readback.specs.Listed.{cut_three}
use Rattle.pt_readback.proofs.Listed.{same_fault}
use Rattle.pt_readback.proofs.Lines.{token_cut, tagged_cut}
use Rattle.pt_readback.proofs.traces.tagged.Goals as goal

pub returns-in_default-clause-found : goal.returns-in_default-clause-found
returns-in_default-clause-found c = λ earlier t after h s e. absurd (none-some _ (c.in_default.ensures.parts ∙ token_cut (length earlier) t after c.args.text.now e))

pub returns-in_default-cut_three-clause-found : goal.returns-in_default-cut_three-clause-found
returns-in_default-cut_three-clause-found c = λ earlier t after h s e.
    let p = same_Some _ _ (c.in-Some.ensures.parts ∙ token_cut (length earlier) t after c.args.text.now e) in
    absurd (none-some _ (c.in_default-cut_three.ensures.parts ∙ ap (λ r. cut_three 46 32 10 r.1) p ∙ tagged_cut t after h))

pub returns-in_default-tag-clause-found : goal.returns-in_default-tag-clause-found
returns-in_default-tag-clause-found c = λ earlier t after h s e.
    let p = same_Some _ _ (c.in-Some.ensures.parts ∙ token_cut (length earlier) t after c.args.text.now e) in
    let q = same_Some _ _ (c.in-Some-cut_three.ensures.parts ∙ ap (λ r. cut_three 46 32 10 r.1) p ∙ tagged_cut t after h) in
    absurd (none-some _ (c.in_default-tag.ensures t.0 h.time h.step (sym (ap (λ r. r.0) q)) (sym (ap (λ r. r.1) q))))

pub returns-in_err-token-clause-found : goal.returns-in_err-token-clause-found
returns-in_err-token-clause-found c = λ earlier t after h s e.
    let p = same_Some _ _ (c.in-Some.ensures.parts ∙ token_cut (length earlier) t after c.args.text.now e) in
    let q = same_Some _ _ (c.in-Some-cut_three.ensures.parts ∙ ap (λ r. cut_three 46 32 10 r.1) p ∙ tagged_cut t after h) in
    same_fault _ c.from_residual.result c.in_err-token.field-0.0 (t, after) c.from_residual.ensures.1 (c.in_err-token.ensures (value_of t.1) h.value (sym (ap (λ r. r.2) q)))

pub returns-clause-found : goal.returns-clause-found
returns-clause-found c = λ earlier t after h s e.
    let p = same_Some _ _ (c.in-Some.ensures.parts ∙ token_cut (length earlier) t after c.args.text.now e) in
    let q = same_Some _ _ (c.in-Some-cut_three.ensures.parts ∙ ap (λ r. cut_three 46 32 10 r.1) p ∙ tagged_cut t after h) in
    let a = same_Some _ _ (c.in-Some-tag.ensures t.0 h.time h.step (sym (ap (λ r. r.0) q)) (sym (ap (λ r. r.1) q))) in
    let b = same_token _ _ (c.in_ok-token.ensures (value_of t.1) h.value (sym (ap (λ r. r.2) q))) in
    let d = ap (λ r. r.3) q in
    λ i. ((a i, b i), d i)
