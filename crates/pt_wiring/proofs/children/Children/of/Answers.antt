use Rattle.std.proofs.Common.{◌≡◌, ℕ, ◌<◌, ◌+◌, ◌++◌, ◌∷◌, [], List, length, take, refl, sym, ap, ◌∙◌, subst, arith}
use Rattle.std.proofs.lemmas.List.{take_more, length-take-le}
use Rattle.pt_net.specs.declared.net.NetEntity.{NetEntity}
use Rattle.pt_wiring.specs.Children.{AreChildren}
use Rattle.pt_wiring.proofs.children.Children.of.Goals as goal

pub loop-number-preserved : goal.loop-number-preserved
loop-number-preserved c =
    let es : List NetEntity = c.args.entities.now in
    let n : ℕ = c.loop-number.number in
    let e : NetEntity = c.index-entities-number.result in
    let within : n < length es = omega arith in
    let one-more : take (n + 1) es ≡ take n es ++ e ∷ [] = take_more es n e within ∙ ap (λ x. take n es ++ x ∷ []) (sym c.index-entities-number.is) in
    let step = c.in_ok-add_child.ensures (length es) (take n es) e c.loop-number.numbers.items c.loop-number.invariant (length-take-le n es (omega (arith, within))) refl in
    subst (λ xs. AreChildren (length es) xs c.add_child.new.lists.items c.push.new.self.items) (sym one-more) (subst (λ ns. AreChildren (length es) (take n es ++ e ∷ []) c.add_child.new.lists.items ns) (sym c.in_ok-push.ensures.items) step)
