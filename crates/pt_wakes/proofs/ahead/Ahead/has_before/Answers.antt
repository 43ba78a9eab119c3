use Rattle.std.proofs.Common.{◌-◌, ◌<◌, length, take, sym, ap, subst, ◌∙◌}
use Rattle.pt_meaning.specs.Tag.{least}
use Rattle.pt_wakes.specs.Queue.{is_before}
use Rattle.pt_wakes.proofs.QueueLaws.{least-front, not-empty}
use Rattle.pt_wakes.proofs.ahead.Ahead.has_before.Goals as goal

pub returns-then-is_some : goal.returns-then-is_some
returns-then-is_some c =
    let some : 0 < length c.deref.result.now = not-empty c.deref.result.now (take (length c.deref.result.now - 1) c.deref.result.now) c.last_of.result (sym c.is_some.ensures ∙ c.if-is_some.true) c.last_of.ensures.some in
    ap (is_before c.args.depth) (sym (least-front c.self.inside.front.items c.self.inside.depth c.self.inside.behind c.self.invariant (subst (λ v. 0 < length v) c.deref.ensures.value some)) ∙ ap least c.self.view_is)
