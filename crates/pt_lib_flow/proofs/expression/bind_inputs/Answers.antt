use Rattle.std.proofs.Common.{◌≡◌, ◌<◌, length, map, get_or, ◌∙◌, arith}
use Rattle.std.specs.Prelude.{option_map}
use Rattle.pt_value.specs.Token.{value_of}
use Rattle.pt_expr.specs.Env.{scope_of}
use Rattle.pt_types.specs.Entry.{typed_entry}
use Rattle.pt_formula.specs.Formula.{names}
use Rattle.pt_formula.proofs.Formulas.{inputs-bound, others-bound, name-at, length-names}
use Rattle.pt_lib_flow.proofs.expression.bind_inputs.Goals as goal

pub loop-place-preserved : goal.loop-place-preserved
loop-place-preserved c =
    let es = c.args.entries.now in
    let ns = names (map typed_entry es) in
    let X = c.args.inputs.now in
    let n = c.loop-place.place in
    let inv = c.loop-place.invariant in
    let e = c.index-entries-place.result in
    let short : n < length ns = omega (arith, c.loop-place-test.true, length-names es) in
    let is : e.0 ≡ get_or ns n e.0 = name-at es n e c.index-entries-place.is in
    record {
      rest = λ name. inputs-bound ns X n e.0 c.as_str.result.now (scope_of c.loop-place.env) (scope_of c.bind.new.self) c.in_ok-token.token short is c.as_str.ensures c.in_ok-token.ensures c.in_ok-bind.ensures.ok name ∙ inv.rest name;
      others = λ name apart. others-bound ns n e.0 c.as_str.result.now (scope_of c.loop-place.env) (scope_of c.bind.new.self) (option_map value_of c.in_ok-token.token) short is c.as_str.ensures c.in_ok-bind.ensures.ok name apart ∙ inv.others name apart;
    }
