use Rattle.std.proofs.Common.{◌≡◌, ◌<◌, ◌-◌, ◌+◌, length, drop, Some, sym, ap, ◌∙◌, arith}
use Rattle.std.specs.Prelude.{option_map}
use Rattle.pt_value.specs.Token.{value_of}
use Rattle.pt_expr.specs.Env.{scope_of}
use Rattle.pt_firing.proofs.Named.{nothing-under}
use Rattle.pt_formula.specs.Formula.{parameters}
use Rattle.pt_formula.proofs.Formulas.{parameters-bound}
use Rattle.pt_guards.proofs.names.bound.Goals as goal

pub loop-left-init : goal.loop-left-init
loop-left-init c =
    let es = c.as_slice-entries.result.now in
    record {
      rest = λ name. c.new-env.ensures name ∙ sym (ap (option_map (λ token. Some (value_of token))) (nothing-under name es (length es) (omega arith)));
      within = omega arith;
      all = c.as_slice-entries.ensures;
    }

pub loop-left-preserved : goal.loop-left-preserved
loop-left-preserved c =
    let es = c.as_slice-entries.result.now in
    let n = c.loop-left.left - 1 in
    let inv = c.loop-left.invariant in
    let short : n < length es = omega (arith, inv.within) in
    let more : c.loop-left.left ≡ n + 1 = omega arith in
    let e = c.index-entries-left.result in
    record {
      rest = parameters-bound es n e c.as_str.result.now c.in_ok-copy.field-0 (scope_of c.loop-left.env) (scope_of c.bind.new.self) short c.index-entries-left.is c.as_str.ensures c.in_ok-copy.ensures.value c.in_ok-bind.ensures.ok (λ name. inv.rest name ∙ ap (λ k. parameters (drop k es) name) more);
      within = omega (arith, inv.within);
      all = inv.all;
    }
