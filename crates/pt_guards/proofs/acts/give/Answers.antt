use Rattle.std.proofs.Common.{◌∷◌, [], List, length, set, ap, ◌∙◌, arith, ◌<◌, ◌≤◌}
use Rattle.pt_value.specs.declared.token.Token.{Token}
use Rattle.pt_guards.proofs.ListLaws.{change-const, change-past}
use Rattle.pt_guards.proofs.acts.give.Goals as goal

pub returns-then-port-len : goal.returns-then-port-len
returns-then-port-len c =
    let short : c.args.port < length c.args.outputs.now.items = omega (arith, c.if-port-len.true, c.len.ensures) in
    ap (λ (x : List Token). set c.args.outputs.now.items c.args.port x) c.one.ensures ∙ change-const c.args.port (c.args.token ∷ []) c.args.outputs.now.items short

pub returns-else-port-len : goal.returns-else-port-len
returns-else-port-len c =
    let past : length c.args.outputs.now.items ≤ c.args.port = omega (arith, c.if-port-len.false, c.len.ensures) in
    change-past c.args.port (λ old. c.args.token ∷ []) c.args.outputs.now.items past
