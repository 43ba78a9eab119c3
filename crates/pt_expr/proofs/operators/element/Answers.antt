use Rattle.std.proofs.Common.{rules, ◌≡◌, IfOk, IfErr, subst, sym, ap, ◌∙◌}
use Rattle.pt_value.specs.Value.{list_of-values_of}
use Rattle.pt_value.specs.Token.{value_of}
use Rattle.pt_language.specs.Outcome.{Gives, Stops}
use Rattle.pt_language.specs.Meaning as meaning
use Rattle.pt_expr.proofs.operators.element.Goals as goal

pub returns-clause-ok : goal.returns-clause-ok
returns-clause-ok c =
    let e : meaning.element (value_of c.args.array) (value_of c.args.index) ≡ meaning.at c.in-Array-Int.items c.in-Array-Int.index = (λ i. meaning.element (value_of (c.in-Array-Int.is-0 i)) (value_of (c.in-Array-Int.is-1 i))) ∙ ap (λ vs. meaning.at vs c.in-Array-Int.index) (list_of-values_of c.in-Array-Int.items) in
    let p : IfOk c.at.result (λ t. meaning.at c.in-Array-Int.items c.in-Array-Int.index ≡ Gives (value_of t)) = search rules in
    subst (λ o. IfOk c.at.result (λ t. o ≡ Gives (value_of t))) (sym e) p

pub returns-clause-err : goal.returns-clause-err
returns-clause-err c =
    let e : meaning.element (value_of c.args.array) (value_of c.args.index) ≡ meaning.at c.in-Array-Int.items c.in-Array-Int.index = (λ i. meaning.element (value_of (c.in-Array-Int.is-0 i)) (value_of (c.in-Array-Int.is-1 i))) ∙ ap (λ vs. meaning.at vs c.in-Array-Int.index) (list_of-values_of c.in-Array-Int.items) in
    let p : IfErr c.at.result (λ fault. meaning.at c.in-Array-Int.items c.in-Array-Int.index ≡ Stops fault) = search rules in
    subst (λ o. IfErr c.at.result (λ fault. o ≡ Stops fault)) (sym e) p
