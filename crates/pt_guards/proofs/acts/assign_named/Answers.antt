use Rattle.std.proofs.Common.{◌<◌, ◌≤◌, List, length, ap, sym, ◌∙◌, arith}
use Rattle.pt_value.specs.declared.token.Token.{Token}
use Rattle.pt_expr.specs.Env.{scope_of}
use Rattle.pt_guards.specs.Bindings.{scope_on}
use Rattle.pt_chart.specs.Views.{names_view}
use Rattle.pt_guards.proofs.ListLaws.{change-const, change-past}
use Rattle.pt_guards.proofs.ShownLaws.{follows}
use Rattle.pt_guards.proofs.acts.assign_named.Goals as goal

pub returns-then-variable-len-clause-set : goal.returns-then-variable-len-clause-set
returns-then-variable-len-clause-set c =
    let past : length c.args.values.now.items ≤ c.args.variable = omega (arith, c.if-variable-len.true, c.len.ensures) in
    change-past c.args.variable (λ old. c.args.token) c.args.values.now.items past

pub returns-clause-set : goal.returns-clause-set
returns-clause-set c =
    let short : c.args.variable < length c.args.values.now.items = omega (arith, c.if-variable-len.false, c.len.ensures) in
    change-const c.args.variable c.args.token c.args.values.now.items short

pub returns-clause-bound : goal.returns-clause-bound
returns-clause-bound c came given is =
    let table = names_view c.args.names.now in
    let short : c.args.variable < length c.args.values.now.items = omega (arith, c.if-variable-len.false, c.len.ensures) in
    follows table c.args.values.now.items c.args.variable c.args.token (scope_of c.args.bindings.now.env) (scope_of c.set.new.self.env) short c.in_ok-set.ensures.set came given is
    ∙ ap (λ (vs : List Token). scope_on table vs came given) (sym (change-const c.args.variable c.args.token c.args.values.now.items short))
