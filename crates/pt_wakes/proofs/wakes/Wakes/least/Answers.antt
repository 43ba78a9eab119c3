use Rattle.std.proofs.Common.{◌<◌, None, ap, ◌∙◌, arith}
use Rattle.std.proofs.lemmas.List.{get_or_read}
use Rattle.pt_meaning.specs.Tag.{least}
use Rattle.pt_wakes.proofs.NodeLaws.{positive, root-least}
use Rattle.pt_wakes.proofs.wakes.Wakes.least.Goals as goal

pub returns : goal.returns
returns c =
    let p : 0 < c.self.inside.leaves = positive c.self.inside.leaves c.if-self-eq0.false in
    c.get.ensures ∙ get_or_read c.self.inside.nodes.items 1 c.index.result.now (omega (arith, p, c.self.invariant.len)) c.index.ensures None ∙ root-least c.self.inside.leaves c.self.inside.nodes.items c.self.invariant p ∙ ap least c.self.view_is
