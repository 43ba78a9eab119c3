use Rattle.std.proofs.Common.{◌≡◌, IfOk, pos, length, subst, sym, ap, ◌∙◌}
use Rattle.pt_value.specs.Value.{list_of-values_of}
use Rattle.pt_value.specs.Token.{value_of}
use Rattle.pt_language.specs.Outcome.{Gives}
use Rattle.pt_language.specs.Meaning as meaning
use Rattle.pt_expr.proofs.operators.length_of.Goals as goal

pub returns-in-Array-clause-ok : goal.returns-in-Array-clause-ok
returns-in-Array-clause-ok c =
    let e : meaning.length_of (value_of c.args.operand) ≡ meaning.exact (pos c.len.result) = ap (λ t. meaning.length_of (value_of t)) c.in-Array.is ∙ ap (λ vs. meaning.exact (pos (length vs))) (list_of-values_of c.in-Array.items) ∙ ap (λ n. meaning.exact (pos n)) (sym c.len.ensures) in
    subst (λ o. IfOk c.counted-in-Array.result (λ t. o ≡ Gives (value_of t))) (sym e) c.counted-in-Array.ensures.ok
