use Rattle.std.proofs.Common.{ℕ, List, [], ◌∷◌, ◌++◌, ◌<◌, length, get_or, ap, ◌∙◌, arith}
use Rattle.std.proofs.lemmas.List.{get_or_default}
use Rattle.pt_sched.proofs.Listing.{listed-start, listed-step, listed-all, child-inside, no_channel}
use Rattle.pt_sched.proofs.lists.listed.Goals as goal

pub loop-number-init : goal.loop-number-init
loop-number-init c = listed-start c.args.n c.args.side c.in_ok-lists.lists.items c.in_ok-lists.ensures.counted c.in_ok-lists.ensures.empty

pub loop-number-preserved : goal.loop-number-preserved
loop-number-preserved c =
    let child : ℕ = c.child_of-child.result in
    let inside : child < length c.loop-number.lists.items = omega (arith, c.child_of-child.ensures, c.loop-number.invariant.counted, child-inside c.args.n c.args.side (get_or c.args.channels.now c.loop-number.number no_channel) (c.requires c.loop-number.number no_channel c.loop-number-test.true)) in
    listed-step c.args.n c.args.side c.args.channels.now c.loop-number.number c.loop-number.lists.items child c.push.new.self c.loop-number-test.true c.requires c.child_of-child.ensures (c.in_ok-push.ensures ∙ ap (λ (xs : List ℕ). xs ++ c.loop-number.number ∷ []) (c.index_mut.ensures.value ∙ get_or_default c.loop-number.lists.items child c.index_mut.result.now [] inside)) c.loop-number.invariant

pub returns : goal.returns
returns c = listed-all c.args.n c.args.side c.args.channels.now c.loop-number.number c.loop-number.lists.items c.loop-number-test.false c.loop-number.invariant
