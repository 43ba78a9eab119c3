use Rattle.std.proofs.Common.{not, ap, ◌∙◌}
use Rattle.pt_value.specs.Token.{value_of}
use Rattle.pt_language.specs.Meaning as meaning
use Rattle.pt_language.proofs.Comparisons.{compared_right}
use Rattle.pt_expr.proofs.operators.applied.Goals as goal

pub returns-in-Equal-clause-ok : goal.returns-in-Equal-clause-ok
returns-in-Equal-clause-ok c =
    let e = ap (λ o. meaning.applied o (value_of c.args.first) (value_of c.args.second)) c.in-Equal.is in
    e ∙ compared_right (λ b. b) c.args.first c.args.second c.same.result c.same.ensures (λ wrong. c.requires.right (e ∙ wrong))

pub returns-in-Unequal-clause-ok : goal.returns-in-Unequal-clause-ok
returns-in-Unequal-clause-ok c =
    let e = ap (λ o. meaning.applied o (value_of c.args.first) (value_of c.args.second)) c.in-Unequal.is in
    e ∙ compared_right not c.args.first c.args.second c.same-in-Unequal.result c.same-in-Unequal.ensures (λ wrong. c.requires.right (e ∙ wrong))
