use Rattle.std.proofs.Common.{◌≡◌, ◌<◌, ◌-◌, ◌+◌, length, drop, sym, ap, ◌∙◌, arith}
use Rattle.std.specs.Prelude.{option_map}
use Rattle.pt_value.specs.Token.{value_of}
use Rattle.pt_datatypes.specs.Normal.{normal}
use Rattle.pt_types.specs.Ty.{type_of}
use Rattle.pt_datatypes.specs.Token.{type_of_value}
use Rattle.pt_types.proofs.TokenTypes.{value-is_type}
use Rattle.pt_expr_type.specs.TypeEnv.{types_in}
use Rattle.pt_firing.proofs.Named.{nothing-under}
use Rattle.pt_formula.specs.Formula.{parameter_types}
use Rattle.pt_formula.proofs.TypesBound.{parameter_types-bound}
use Rattle.pt_lib_flow.proofs.expression.bound_types.Goals as goal

pub loop-left-init : goal.loop-left-init
loop-left-init c =
    let es = c.as_slice-entries.result.now in
    record {
      rest = λ name. c.new-env.ensures name ∙ sym (ap (option_map (λ token. type_of_value (value_of token))) (nothing-under name es (length es) (omega arith)));
      within = omega arith;
      all = c.as_slice-entries.ensures;
    }

pub loop-left-preserved : goal.loop-left-preserved
loop-left-preserved c =
    let es = c.as_slice-entries.result.now in
    let n = c.loop-left.left - 1 in
    let inv = c.loop-left.invariant in
    let short : n < length es = omega (arith, inv.within, c.loop-left-test.true) in
    let more : c.loop-left.left ≡ n + 1 = omega (arith, c.loop-left-test.true) in
    let e = c.index-entries-left.result in
    let typed : type_of c.in_ok-type_of_token.field-0 ≡ type_of_value (value_of e.1) = ap normal c.in_ok-type_of_token.ensures ∙ value-is_type (value_of e.1) in
    record {
      rest = parameter_types-bound es n e c.as_str.result.now (type_of c.in_ok-type_of_token.field-0) (types_in c.loop-left.env) (types_in c.bind.new.self) short c.index-entries-left.is c.as_str.ensures typed c.in_ok-bind.ensures.ok (λ name. inv.rest name ∙ ap (λ k. parameter_types (drop k es) name) more);
      within = omega (arith, inv.within);
      all = inv.all;
    }

pub returns : goal.returns
returns c name =
    let es = c.as_slice-entries.result.now in
    let none : c.loop-left.left ≡ 0 = omega (arith, c.loop-left-test.false) in
    c.loop-left.invariant.rest name ∙ ap (λ k. parameter_types (drop k es) name) none ∙ ap (λ xs. parameter_types xs name) c.loop-left.invariant.all
