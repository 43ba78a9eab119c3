use Rattle.std.proofs.Common.{◌<◌, true, length, set, sym, ap, subst, ◌∙◌}
use Rattle.pt_meaning.specs.Tag.{least}
use Rattle.pt_wakes.specs.Wakes.{wake_of}
use Rattle.pt_wakes.specs.Keys.{key_of}
use Rattle.pt_wakes.specs.Queue.{with_front, is_before, IsQueue}
use Rattle.pt_wakes.proofs.QueueLaws.{with-long, with-snoc, put-out, put-same, put-behind, put-front, put-beside}
use Rattle.pt_wakes.proofs.ahead.Ahead.put.Goals as goal

pub put-requires-clause-there : goal.put-requires-clause-there
put-requires-clause-there c = subst (λ n. c.args.child < n) (with-long c.self.inside.front.items c.self.inside.depth c.self.inside.behind) (subst (λ v. c.args.child < length v) (sym c.self.view_is) c.requires.there)

pub put-requires-clause-out : goal.put-requires-clause-out
put-requires-clause-out c =
    put-out c.self.inside.front.items c.self.inside.depth c.self.inside.behind c.args.child c.args.depth (subst (λ v. c.args.child < length v) (sym c.self.view_is) c.requires.there) (ap (λ v. wake_of v c.args.child) c.self.view_is ∙ c.requires.out)

pub invariant_of-self : goal.invariant_of-self
invariant_of-self c =
    subst (λ v. IsQueue c.self.inside.front.items c.self.inside.depth v) (sym c.put.ensures)
    (put-behind c.self.inside.front.items c.self.inside.depth c.self.inside.behind c.args.child c.args.depth (subst (λ v. c.args.child < length v) (sym c.self.view_is) c.requires.there) (ap (λ v. wake_of v c.args.child) c.self.view_is ∙ c.requires.out) c.self.invariant
    (ap (λ v. is_before c.args.depth (least v)) c.self.view_is ∙ sym c.has_before.ensures ∙ c.if-has_before.true))

pub returns-then-has_before : goal.returns-then-has_before
returns-then-has_before c =
    ap (λ v. with_front c.self.inside.front.items c.self.inside.depth v) c.put.ensures ∙
    put-same c.self.inside.front.items c.self.inside.depth c.self.inside.behind c.args.child c.args.depth (subst (λ v. c.args.child < length v) (sym c.self.view_is) c.requires.there) (ap (λ v. wake_of v c.args.child) c.self.view_is ∙ c.requires.out) ∙ ap (λ v. set v c.args.child (key_of true c.args.depth)) c.self.view_is

pub invariant_of-self-then-len-capacity : goal.invariant_of-self-then-len-capacity
invariant_of-self-then-len-capacity c =
    let s = c.bring_to.ensures.same ∙ c.self.view_is in
    subst (λ f. IsQueue f c.args.depth c.bring_to.new.behind) (sym c.push_reserved.ensures.items)
    (put-front c.bring_to.new.front.items c.args.depth c.bring_to.new.behind c.args.child (subst (λ v. c.args.child < length v) (sym s) c.requires.there) (ap (λ v. wake_of v c.args.child) s ∙ c.requires.out) c.bring_to.ensures.front (ap (λ v. is_before c.args.depth (least v)) s ∙ sym c.has_before.ensures ∙ c.if-has_before.false))

pub put-requires-else-len-capacity-clause-there : goal.put-requires-else-len-capacity-clause-there
put-requires-else-len-capacity-clause-there c = let s = c.bring_to.ensures.same ∙ c.self.view_is in subst (λ n. c.args.child < n) (with-long c.bring_to.new.front.items c.args.depth c.bring_to.new.behind) (subst (λ v. c.args.child < length v) (sym s) c.requires.there)

pub put-requires-else-len-capacity-clause-out : goal.put-requires-else-len-capacity-clause-out
put-requires-else-len-capacity-clause-out c =
    let s = c.bring_to.ensures.same ∙ c.self.view_is in
    put-out c.bring_to.new.front.items c.args.depth c.bring_to.new.behind c.args.child c.args.depth (subst (λ v. c.args.child < length v) (sym s) c.requires.there) (ap (λ v. wake_of v c.args.child) s ∙ c.requires.out)

pub invariant_of-self-else-len-capacity : goal.invariant_of-self-else-len-capacity
invariant_of-self-else-len-capacity c =
    let s = c.bring_to.ensures.same ∙ c.self.view_is in
    subst (λ v. IsQueue c.bring_to.new.front.items c.args.depth v) (sym c.put-else-len-capacity.ensures)
    (put-beside c.bring_to.new.front.items c.args.depth c.bring_to.new.behind c.args.child (subst (λ v. c.args.child < length v) (sym s) c.requires.there) (ap (λ v. wake_of v c.args.child) s ∙ c.requires.out) c.bring_to.ensures.front (ap (λ v. is_before c.args.depth (least v)) s ∙ sym c.has_before.ensures ∙ c.if-has_before.false))

pub returns-then-len-capacity : goal.returns-then-len-capacity
returns-then-len-capacity c =
    ap (λ f. with_front f c.args.depth c.bring_to.new.behind) c.push_reserved.ensures.items ∙ with-snoc c.bring_to.new.front.items c.args.depth c.bring_to.new.behind c.args.child ∙ ap (λ v. set v c.args.child (key_of true c.args.depth)) (c.bring_to.ensures.same ∙ c.self.view_is)

pub returns-else-len-capacity : goal.returns-else-len-capacity
returns-else-len-capacity c =
    let s = c.bring_to.ensures.same ∙ c.self.view_is in
    ap (λ v. with_front c.bring_to.new.front.items c.args.depth v) c.put-else-len-capacity.ensures ∙
    put-same c.bring_to.new.front.items c.args.depth c.bring_to.new.behind c.args.child c.args.depth (subst (λ v. c.args.child < length v) (sym s) c.requires.there) (ap (λ v. wake_of v c.args.child) s ∙ c.requires.out) ∙ ap (λ v. set v c.args.child (key_of true c.args.depth)) s
