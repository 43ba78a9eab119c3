use Rattle.std.proofs.Common.{sym, ap, ◌∙◌}
use Rattle.std.proofs.lemmas.Option.{none-some, same_Some}
use Rattle.pt_trace.specs.declared.run_end.RunEnd.TheVariants.{Budget}
use Rattle.pt_readback.proofs.Lines.{budget_cut}
use Rattle.pt_readback.proofs.ending.budget.Goals as goal

pub returns-in_default-clause-found : goal.returns-in_default-clause-found
returns-in_default-clause-found c = λ n h e. absurd (none-some _ (c.in_default.ensures.parts ∙ budget_cut n c.args.text.now e))

pub returns-in-Some-number-clause-found : goal.returns-in-Some-number-clause-found
returns-in-Some-number-clause-found c = λ n h e.
    let p = same_Some _ _ (c.in-Some.ensures.parts ∙ budget_cut n c.args.text.now e) in
    ap Budget (same_Some _ _ (c.in-Some-number.ensures.found n h (sym (ap (λ q. q.0) p))))

pub returns-in-None-clause-found : goal.returns-in-None-clause-found
returns-in-None-clause-found c = λ n h e.
    let p = same_Some _ _ (c.in-Some.ensures.parts ∙ budget_cut n c.args.text.now e) in
    absurd (none-some _ (c.in-None.ensures.found n h (sym (ap (λ q. q.0) p))))
