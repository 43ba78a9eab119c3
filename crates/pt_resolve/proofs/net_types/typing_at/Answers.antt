use Rattle.std.proofs.Common.{◌≡◌, List, map, ap, subst}
use Rattle.std.proofs.lemmas.Result.{IfOk-weaker}
use Rattle.pt_typing.specs.declared.typing.Typing.{Typing}
use Rattle.pt_typing.specs.Views.{Inequality, inequality_view}
use Rattle.pt_typing.specs.Least.{IsLeast, assignment}
use Rattle.pt_inequalities.specs.Typing.{IsTyping}
use Rattle.pt_resolve.proofs.NetTypings.{net-typing}
use Rattle.pt_resolve.proofs.net_types.typing_at.Goals as goal

pub returns : goal.returns
returns c =
    let net = c.args.net.now in
    let values = c.args.values.now in
    let qs : List Inequality = map inequality_view c.in_ok-inequalities.inequalities.items in
    let same : map inequality_view c.as_slice.result.now ≡ qs = ap (map inequality_view) c.as_slice.ensures.value in
    IfOk-weaker c.least_typing-typing.result (λ (t : Typing). IsLeast c.args.counts.now (map inequality_view c.as_slice.result.now) (assignment t)) (λ (t : Typing). IsTyping net values (assignment t))
    (λ t h. net-typing net values (assignment t) qs c.in_ok-inequalities.ensures (subst (λ ps. IsLeast ps qs (assignment t)) c.requires.counts (subst (λ rs. IsLeast c.args.counts.now rs (assignment t)) same h)))
    c.least_typing-typing.ensures
