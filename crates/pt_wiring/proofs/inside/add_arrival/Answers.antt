use Rattle.std.proofs.Common.{◌≡◌, ℕ, ◌+◌, ◌<◌, length, get_or, sym, ◌∙◌, subst, arith, set, ◌++◌, ◌∷◌, []}
use Rattle.std.proofs.lemmas.List.{get_or_default}
use Rattle.pt_wiring.specs.Channels.{AreArrivals}
use Rattle.pt_wiring.proofs.ArrivalLaws.{arrived}
use Rattle.pt_wiring.proofs.inside.add_arrival.Goals as goal

pub returns-then-entity-len : goal.returns-then-entity-len
returns-then-entity-len c = λ count ks are.
    let e : ℕ = c.args.channel.now.to.entity in
    let there : e < length c.args.arrivals.now.items = omega (arith, c.if-entity-len.true, c.len.ensures) in
    let read : c.index_mut.result.now ≡ get_or c.args.arrivals.now.items e 0 = c.index_mut.ensures.value ∙ get_or_default c.args.arrivals.now.items e c.index_mut.result.now 0 there in
    subst (λ n. AreArrivals count (ks ++ c.args.channel.now ∷ []) (set c.args.arrivals.now.items e (n + 1))) (sym read) (arrived count ks c.args.channel.now _ are c.if-channel.true there)
