use Rattle.std.proofs.Common.{◌+◌, List, [], ◌∷◌, ◌++◌, take, sym, subst}
use Rattle.std.specs.List.{AllZip}
use Rattle.pt_typing.specs.declared.term.Inequality.{Inequality}
use Rattle.pt_typing.specs.declared.rule.Bound.{Bound}
use Rattle.pt_typing.specs.Views.{IsRuleOf}
use Rattle.pt_typing.proofs.Naming.{take-one, zip-push}
use Rattle.pt_typing.proofs.typing.rules_of.Goals as goal

pub loop-inequality-preserved : goal.loop-inequality-preserved
loop-inequality-preserved c =
    let R : Inequality → Bound → Type 0 = IsRuleOf c.args.numbers.now in
    let xs = c.args.inequalities.now in
    let i = c.loop-inequality.inequality-index in
    let q = c.inequality-item.result in
    subst (λ ys. AllZip R (take (i + 1) xs) ys) (sym c.in_ok-push.ensures.items)
    (subst (λ zs. AllZip R zs (c.loop-inequality.rules.items ++ c.in_ok-rule.rule ∷ [])) (sym (take-one xs i q c.loop-inequality-test.true c.inequality-item.is))
    (zip-push R (take i xs) c.loop-inequality.rules.items q c.in_ok-rule.rule c.loop-inequality.invariant c.in_ok-rule.ensures))
