use Rattle.std.proofs.Common.{◌≡◌, ℕ, zero, suc, ◌+◌, ◌<◌, List, [], ◌∷◌, ◌++◌, length, take, get_or, ap, ap₂, sym, ◌∙◌, arith, add-one}
use Rattle.std.proofs.lemmas.List.{take_all}
use Rattle.pt_rv_plan.specs.Ends.{Arriving}
use Rattle.pt_rv.specs.Parties.{inputs_of}
use Rattle.pt_rv.proofs.EndLaws.{inputs-behind}
use Rattle.pt_rv.proofs.parties.inlets_again.Goals as goal

more : (is : List Arriving) (k : ℕ) (i : Arriving) → k < length is → i ≡ get_or is k i → inputs_of (take k is) ++ (i.puts ∷ []) ≡ inputs_of (take (k + 1) is)
more is k i h e = next is k h e ∙ ap (λ j. inputs_of (take j is)) (sym (add-one k))
  where
    next : (is : List Arriving) (k : ℕ) → k < length is → i ≡ get_or is k i → inputs_of (take k is) ++ (i.puts ∷ []) ≡ inputs_of (take (suc k) is)
    next [] k h e = absurd (omega (arith, h))
    next (x ∷ is) zero h e = ap (λ (v : Arriving). v.puts ∷ []) e
    next (x ∷ is) (suc k) h e = ap (λ v. x.puts ∷ v) (next is k (omega (arith, h)) e)

pub loop-inlet-preserved : goal.loop-inlet-preserved
loop-inlet-preserved c =
    ap inputs_of c.in_ok-push.ensures.items ∙ inputs-behind c.loop-inlet.copies.items c.in_ok-copy.copy ∙ ap₂ (λ v w. v ++ (w ∷ [])) c.loop-inlet.invariant c.in_ok-copy.ensures.puts ∙ more c.args.inlets.now c.loop-inlet.inlet-index c.inlet-item.result c.loop-inlet-test.true c.inlet-item.is

pub returns : goal.returns
returns c = c.loop-inlet.invariant ∙ ap inputs_of (take_all c.loop-inlet.inlet-index c.args.inlets.now (omega (arith, c.loop-inlet-test.false)))
