use Rattle.std.proofs.Common.{◌≡◌, Some}
use Rattle.std.specs.Prelude.{option_map}
use Rattle.pt_value.specs.Token.{value_of}
use Rattle.pt_types.specs.Ty.{type_of}
use Rattle.pt_expr.specs.Env.{scope_of}
use Rattle.pt_chart.specs.Names.{of_type}
use Rattle.pt_guards.proofs.NameLaws.{others-kept}
use Rattle.pt_guards.proofs.ShownLaws.{renames, renames-none}
use Rattle.pt_guards.proofs.names.rebind.Goals as goal

pub returns-then-variable-entries-clause-ok : goal.returns-then-variable-entries-clause-ok
returns-then-variable-entries-clause-ok c = renames-none c.args.entries.now c.args.variable c.args.token.now (scope_of c.args.env.now) c.if-variable-entries.true

pub returns-clause-ok : goal.returns-clause-ok
returns-clause-ok c =
    let e = c.index-entries-variable.result in
    let v = option_map value_of c.in_ok-token.token in
    let held : v ≡ of_type (type_of e.1) (Some c.args.token.now) = c.in_ok-token.ensures in
    renames c.args.entries.now c.args.variable e c.as_str.result.now v c.args.token.now (scope_of c.args.env.now) (scope_of c.bind.new.self) c.if-variable-entries.false c.index-entries-variable.is c.as_str.ensures held c.in_ok-bind.ensures.ok

pub returns-clause-others : goal.returns-clause-others
returns-clause-others c =
    let e = c.index-entries-variable.result in
    let v = option_map value_of c.in_ok-token.token in
    λ name apart. others-kept c.args.entries.now c.args.variable e c.as_str.result.now (scope_of c.args.env.now) (scope_of c.bind.new.self) v c.if-variable-entries.false c.index-entries-variable.is c.as_str.ensures c.in_ok-bind.ensures.ok name apart
