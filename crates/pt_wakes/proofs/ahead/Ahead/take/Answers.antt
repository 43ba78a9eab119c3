use Rattle.std.proofs.Common.{◌≡◌, ◌-◌, None, length, set, take, sym, ap, subst, ◌∙◌, arith}
use Rattle.pt_wakes.specs.Queue.{with_front, IsQueue}
use Rattle.pt_wakes.proofs.QueueLaws.{last-is, last-left}
use Rattle.pt_wakes.proofs.ahead.Ahead.take.Goals as goal

pub invariant_of-self-then-last-child : goal.invariant_of-self-then-last-child
invariant_of-self-then-last-child c =
    let n : length c.self.inside.front.items ≡ c.self.inside.front.len = omega (arith, c.self.inside.front.ok.0) in
    let e = last-is c.self.inside.front.items c.deref.result.now c.self.inside.front.len c.in-Some.last c.args.child c.deref.ensures.value n c.if-last-child.true c.in-Some.ensures.some in
    let r = last-left c.self.inside.front.items (take (c.self.inside.front.len - 1) c.self.inside.front.items) c.self.inside.depth c.self.inside.behind c.args.child e c.self.invariant in
    subst (λ f. IsQueue f c.self.inside.depth c.self.inside.behind) (sym c.pop.ensures.rest) r.0

pub returns-in-Some : goal.returns-in-Some
returns-in-Some c =
    let n : length c.self.inside.front.items ≡ c.self.inside.front.len = omega (arith, c.self.inside.front.ok.0) in
    let e = last-is c.self.inside.front.items c.deref.result.now c.self.inside.front.len c.in-Some.last c.args.child c.deref.ensures.value n c.if-last-child.true c.in-Some.ensures.some in
    let r = last-left c.self.inside.front.items (take (c.self.inside.front.len - 1) c.self.inside.front.items) c.self.inside.depth c.self.inside.behind c.args.child e c.self.invariant in
    ap (λ f. with_front f c.self.inside.depth c.self.inside.behind) c.pop.ensures.rest ∙ r.1 ∙ ap (λ v. set v c.args.child None) c.self.view_is
