use Rattle.std.proofs.Common.{◌≡◌, ◌<◌, None, sym, ap, ◌∙◌, arith}
use Rattle.std.proofs.lemmas.List.{get_or_read}
use Rattle.pt_meaning.specs.Tag.{least}
use Rattle.pt_wakes.proofs.NodeLaws.{positive, root-least}
use Rattle.pt_wakes.proofs.wakes.Wakes.is_empty.Goals as goal

pub returns-else-self-eq0 : goal.returns-else-self-eq0
returns-else-self-eq0 c =
    let p : 0 < c.self.inside.leaves = positive c.self.inside.leaves c.if-self-eq0.false in
    let e : c.index.result.now ≡ least c.args.self.now = get_or_read c.self.inside.nodes.items 1 c.index.result.now (omega (arith, p, c.self.invariant.len)) c.index.ensures None ∙ root-least c.self.inside.leaves c.self.inside.nodes.items c.self.invariant p ∙ ap least c.self.view_is in
    (λ t. sym e ∙ c.is_none.ensures.0 t, λ n. c.is_none.ensures.1 (e ∙ n))
