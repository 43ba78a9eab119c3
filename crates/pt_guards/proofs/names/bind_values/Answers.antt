use Rattle.std.proofs.Common.{◌≡◌, ℕ, Option, ap, sym, ◌∙◌}
use Rattle.std.specs.Prelude.{option_map}
use Rattle.pt_meaning.specs.Streams.{get}
use Rattle.pt_value.specs.Token.{value_of}
use Rattle.pt_value.specs.declared.token.Token.{Token}
use Rattle.pt_types.specs.Ty.{type_of}
use Rattle.pt_expr.specs.Env.{scope_of}
use Rattle.pt_chart.specs.Names.{of_type}
use Rattle.pt_guards.proofs.NameLaws.{names-bound, others-kept, nothing-bound}
use Rattle.pt_guards.proofs.names.bind_values.Goals as goal

pub loop-i-preserved : goal.loop-i-preserved
loop-i-preserved c =
    let es = c.args.entries.now in
    let read : ℕ → Option Token = λ i. get c.args.values.now i in
    let n = c.loop-i.i in
    let e = c.index-entries-i.result in
    let v = option_map value_of c.in_ok-token.token in
    let is : v ≡ of_type (type_of e.1) (read n) = c.in_ok-token.ensures ∙ ap (λ o. of_type (type_of e.1) o) c.value_at.ensures in
    record {
      rest = λ name. names-bound es read n e c.as_str.result.now (scope_of c.loop-i.env) (scope_of c.bind.new.self) v c.loop-i-test.true c.index-entries-i.is c.as_str.ensures is c.in_ok-bind.ensures.ok name ∙ c.loop-i.invariant.rest name;
      others = λ name apart. others-kept es n e c.as_str.result.now (scope_of c.loop-i.env) (scope_of c.bind.new.self) v c.loop-i-test.true c.index-entries-i.is c.as_str.ensures c.in_ok-bind.ensures.ok name apart ∙ c.loop-i.invariant.others name apart;
    }

pub returns-clause-ok : goal.returns-clause-ok
returns-clause-ok c name =
    let read : ℕ → Option Token = λ i. get c.args.values.now i in
    sym (nothing-bound c.args.entries.now read c.loop-i.i c.loop-i.i (scope_of c.loop-i.env) name c.loop-i-test.false) ∙ c.loop-i.invariant.rest name
