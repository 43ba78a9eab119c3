use Rattle.std.proofs.Common.{◌≡◌, ℕ, Option, ap, sym, ◌∙◌}
use Rattle.std.specs.Prelude.{option_map}
use Rattle.pt_meaning.specs.Streams.{at}
use Rattle.pt_meaning.specs.Transitions.{last_of}
use Rattle.pt_value.specs.Token.{value_of}
use Rattle.pt_value.specs.declared.token.Token.{Token}
use Rattle.pt_types.specs.Ty.{type_of}
use Rattle.pt_expr.specs.Env.{scope_of}
use Rattle.pt_chart.specs.Names.{of_type}
use Rattle.pt_guards.proofs.NameLaws.{names-bound, others-kept, nothing-bound}
use Rattle.pt_guards.proofs.names.bind_ports.Goals as goal

pub loop-port-preserved : goal.loop-port-preserved
loop-port-preserved c =
    let es = c.args.entries.now in
    let read : ℕ → Option Token = λ port. last_of (at c.args.lists.now port) in
    let n = c.loop-port.port in
    let e = c.index-entries-port.result in
    let v = option_map value_of c.in_ok-token.token in
    let is : v ≡ of_type (type_of e.1) (read n) = c.in_ok-token.ensures ∙ ap (λ o. of_type (type_of e.1) o) c.last_at.ensures in
    record {
      rest = λ name. names-bound es read n e c.as_str.result.now (scope_of c.loop-port.env) (scope_of c.bind.new.self) v c.loop-port-test.true c.index-entries-port.is c.as_str.ensures is c.in_ok-bind.ensures.ok name ∙ c.loop-port.invariant.rest name;
      others = λ name apart. others-kept es n e c.as_str.result.now (scope_of c.loop-port.env) (scope_of c.bind.new.self) v c.loop-port-test.true c.index-entries-port.is c.as_str.ensures c.in_ok-bind.ensures.ok name apart ∙ c.loop-port.invariant.others name apart;
    }

pub returns-clause-ok : goal.returns-clause-ok
returns-clause-ok c name =
    let read : ℕ → Option Token = λ port. last_of (at c.args.lists.now port) in
    sym (nothing-bound c.args.entries.now read c.loop-port.port c.loop-port.port (scope_of c.loop-port.env) name c.loop-port-test.false) ∙ c.loop-port.invariant.rest name
