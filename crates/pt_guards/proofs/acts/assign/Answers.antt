use Rattle.std.proofs.Common.{length, arith, ◌<◌, ◌≤◌}
use Rattle.pt_guards.proofs.ListLaws.{change-const, change-past}
use Rattle.pt_guards.proofs.acts.assign.Goals as goal

pub returns-then-variable-len : goal.returns-then-variable-len
returns-then-variable-len c =
    let short : c.args.variable < length c.args.values.now.items = omega (arith, c.if-variable-len.true, c.len.ensures) in
    change-const c.args.variable c.args.token c.args.values.now.items short

pub returns-else-variable-len : goal.returns-else-variable-len
returns-else-variable-len c =
    let past : length c.args.values.now.items ≤ c.args.variable = omega (arith, c.if-variable-len.false, c.len.ensures) in
    change-past c.args.variable (λ old. c.args.token) c.args.values.now.items past
