use Rattle.std.proofs.Common.{◌≡◌, true, sym, ap, ◌∙◌}
use Rattle.pt_datatypes.specs.Datatype.{Boolean}
use Rattle.pt_datatypes.specs.Normal.{normal}
use Rattle.pt_datatypes.specs.Order.{is_below}
use Rattle.pt_datatypes.specs.Join.{joined, join}
use Rattle.pt_types.specs.Ty.{type_of}
use Rattle.pt_datatypes.proofs.Joins.{normal_is_type}
use Rattle.pt_language.specs.Typing.{where_true}
use Rattle.pt_language.specs.Answer.{Gives, judged}
use Rattle.pt_expr_type.proofs.operators.chosen.Goals as goal

pub returns-then-below-clause-ok : goal.returns-then-below-clause-ok
returns-then-below-clause-ok c =
    let yes = type_of c.args.yes in
    let no = type_of c.args.no in
    let e : is_below (type_of c.args.test) Boolean ≡ true = sym c.below.ensures ∙ c.if-below.true in
    let is : type_of c.in_ok-join.field-0 ≡ join yes no = ap normal c.in_ok-join.ensures ∙ normal_is_type (joined yes no) in
    ap (λ b. judged (where_true b (join yes no))) e ∙ ap Gives (sym is)
