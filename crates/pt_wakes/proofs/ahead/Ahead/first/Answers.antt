use Rattle.std.proofs.Common.{◌-◌, length, take, sym, subst, ◌∙◌}
use Rattle.pt_wakes.specs.Queue.{IsFirstKey}
use Rattle.pt_wakes.proofs.QueueLaws.{last-first}
use Rattle.pt_wakes.proofs.ahead.Ahead.first.Goals as goal

pub returns-in-Some-clause-first : goal.returns-in-Some-clause-first
returns-in-Some-clause-first c =
    subst (λ v. IsFirstKey v c.in-Some.child) c.self.view_is
    (last-first c.self.inside.front.items (take (length c.deref.result.now - 1) c.deref.result.now) c.self.inside.depth c.self.inside.behind c.in-Some.child (sym c.deref.ensures.value ∙ c.in-Some.ensures.some) c.self.invariant)
