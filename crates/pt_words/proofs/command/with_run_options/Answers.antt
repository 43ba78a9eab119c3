use Rattle.std.proofs.Common.{◌∙◌, ◌||◌, Bool, ap₂}
use Rattle.std.proofs.lemmas.Result.{IfOk-weaker}
use Rattle.pt_words.proofs.command.with_run_options.Goals as goal

pub returns-clause-local : goal.returns-clause-local
returns-clause-local c =
    IfOk-weaker c.arg-2.result _ _ (λ r h none.
    h.globals ∙ ap₂ (λ (a b : Bool). a || b) (c.in_ok-arg.ensures.globals ∙ ap₂ (λ (a b : Bool). a || b) none c.option.ensures.local) c.option-2.ensures.local) c.arg-2.ensures
