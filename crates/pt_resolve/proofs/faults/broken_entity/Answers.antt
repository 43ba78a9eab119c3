use Rattle.std.proofs.Common.{sym, ◌∙◌}
use Rattle.std.proofs.lemmas.Result.{IfOk-weaker}
use Rattle.pt_typing.specs.Least.{assignment}
use Rattle.pt_resolve.proofs.Breaks.{first-told, found-broken, none-broken}
use Rattle.pt_resolve.proofs.ModalBreaks.{failing-broken}
use Rattle.pt_resolve.proofs.NetTypings.{charts-told}
use Rattle.pt_resolve.proofs.faults.broken_entity.Goals as goal

pub returns-in-Some-clause-some : goal.returns-in-Some-clause-some
returns-in-Some-clause-some c =
    let net = c.args.net.now in
    let values = c.args.values.now in
    let a = assignment c.args.typing.now in
    let same = first-told net values a _ _ _ c.requires.frames c.deref.ensures.value c.deref-2.ensures.value in
    λ k is. found-broken net values a k (sym same ∙ sym c.in_ok-number.ensures ∙ c.in-Some.is ∙ is)

pub returns-in-None-clause-some : goal.returns-in-None-clause-some
returns-in-None-clause-some c =
    let net = c.args.net.now in
    let values = c.args.values.now in
    let a = assignment c.args.typing.now in
    IfOk-weaker c.failing.result _ _
    (λ found f k is. failing-broken a net values f.charts (charts-told net values _ _ _ f.charts c.requires.frames c.deref-in-None.ensures.value c.deref-in-None-2.ensures.value f.are) k (sym f.is ∙ is))
    c.failing.ensures

pub returns-in-None-clause-none : goal.returns-in-None-clause-none
returns-in-None-clause-none c =
    let net = c.args.net.now in
    let values = c.args.values.now in
    let a = assignment c.args.typing.now in
    let same = first-told net values a _ _ _ c.requires.frames c.deref.ensures.value c.deref-2.ensures.value in
    IfOk-weaker c.failing.result _ _
    (λ found f is. none-broken net values a f.charts (charts-told net values _ _ _ f.charts c.requires.frames c.deref-in-None.ensures.value c.deref-in-None-2.ensures.value f.are) (sym f.is ∙ is) (sym same ∙ sym c.in_ok-number.ensures ∙ c.in-None.is))
    c.failing.ensures
