use Rattle.std.proofs.Common.{ℕ, List, ap, ◌∙◌}
use Rattle.pt_datatypes.specs.Datatype.{Datatype}
use Rattle.pt_expr_type.specs.TypeEnv.{types_in}
use Rattle.pt_formula.specs.Formula.{with_types}
use Rattle.pt_chart.specs.Views.{names_view}
use Rattle.pt_chart.proofs.TypedLaws.{all-types}
use Rattle.pt_chart.proofs.typed.types_of.Goals as goal

pub returns : goal.returns
returns c =
    let t0 = types_in c.in_ok-env.env in
    let t1 = types_in c.bind_types.new.env in
    let t2 = types_in c.bind_types-2.new.env in
    all-types (names_view c.args.names.now) t0 t1 t2 (types_in c.bind_types-3.new.env) c.in_ok-env.ensures
    (λ name. c.in_ok-bind_types.ensures name ∙ ap (λ (es : List (List ℕ × Datatype)). with_types es t0 name) c.as_slice.ensures)
    (λ name. c.in_ok-bind_types-2.ensures name ∙ ap (λ (es : List (List ℕ × Datatype)). with_types es t1 name) c.as_slice-2.ensures)
    (λ name. c.in_ok-bind_types-3.ensures name ∙ ap (λ (es : List (List ℕ × Datatype)). with_types es t2 name) c.as_slice-3.ensures)
