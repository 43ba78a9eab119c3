use Rattle.std.proofs.Common.{◌≡◌, IfOk, IfErr, subst, sym}
use Rattle.pt_value.specs.Token.{value_of}
use Rattle.pt_language.specs.Outcome.{Gives, Stops}
use Rattle.pt_language.proofs.Ordered.{recorded-is, weaken-err}
use Rattle.pt_expr.proofs.operators.record_of.Goals as goal

pub returns-in-Ok-clause-ok : goal.returns-in-Ok-clause-ok
returns-in-Ok-clause-ok c =
    subst (λ o. IfOk c.within.result (λ t. o ≡ Gives (value_of t))) (sym (recorded-is _ _ c.requires.right c.in-Ok.ensures.ok c.in-Ok.ensures.lawful)) c.within.ensures.ok

pub returns-in-Ok-clause-err : goal.returns-in-Ok-clause-err
returns-in-Ok-clause-err c =
    weaken-err c.within.result _ (subst (λ o. IfErr c.within.result (λ fault. o ≡ Stops fault)) (sym (recorded-is _ _ c.requires.right c.in-Ok.ensures.ok c.in-Ok.ensures.lawful)) c.within.ensures.err)
