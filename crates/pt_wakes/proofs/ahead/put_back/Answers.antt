use Rattle.std.proofs.Common.{◌≡◌, ◌++◌, ◌∷◌, [], sym, ap, subst, ◌∙◌}
use Rattle.std.specs.Prelude.{option_to_list}
use Rattle.pt_wakes.specs.Queue.{with_front, IsFront}
use Rattle.pt_wakes.proofs.QueueLaws.{last-there, last-out, last-back, last-same}
use Rattle.pt_wakes.proofs.ahead.put_back.Goals as goal

pub put-requires-clause-there : goal.put-requires-clause-there
put-requires-clause-there c =
    let e : c.loop-child.front.items ≡ c.pop.new.self.items ++ c.in-Some.child ∷ [] = c.pop.ensures.items ∙ ap (λ o. c.pop.new.self.items ++ option_to_list o) c.in-Some.is in
    last-there c.loop-child.front.items c.pop.new.self.items c.args.depth c.loop-child.behind c.in-Some.child e c.loop-child.invariant.front

pub put-requires-clause-out : goal.put-requires-clause-out
put-requires-clause-out c =
    let e : c.loop-child.front.items ≡ c.pop.new.self.items ++ c.in-Some.child ∷ [] = c.pop.ensures.items ∙ ap (λ o. c.pop.new.self.items ++ option_to_list o) c.in-Some.is in
    last-out c.loop-child.front.items c.pop.new.self.items c.args.depth c.loop-child.behind c.in-Some.child e c.loop-child.invariant.front

pub loop-child-preserved : goal.loop-child-preserved
loop-child-preserved c =
    let e : c.loop-child.front.items ≡ c.pop.new.self.items ++ c.in-Some.child ∷ [] = c.pop.ensures.items ∙ ap (λ o. c.pop.new.self.items ++ option_to_list o) c.in-Some.is in
    let k = sym c.put.ensures in
    record {
      front = subst (λ v. IsFront c.args.depth v c.pop.new.self.items) k (last-back c.loop-child.front.items c.pop.new.self.items c.args.depth c.loop-child.behind c.in-Some.child e c.loop-child.invariant.front);
      same = ap (λ v. with_front c.pop.new.self.items c.args.depth v) (sym k) ∙ last-same c.loop-child.front.items c.pop.new.self.items c.args.depth c.loop-child.behind c.in-Some.child e c.loop-child.invariant.front ∙ c.loop-child.invariant.same;
    }
