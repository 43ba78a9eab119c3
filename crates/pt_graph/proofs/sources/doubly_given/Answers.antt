use Rattle.std.proofs.Common.{ℕ, ◌+◌, Option, List, length, get_or, sym, ap, subst, ◌∙◌}
use Rattle.std.proofs.lemmas.List.{with_items_is, length-set}
use Rattle.pt_graph.specs.Sources.{AreGivers}
use Rattle.pt_graph.proofs.Givers.{two_givers, one_more, one_giver}
use Rattle.pt_graph.proofs.sources.doubly_given.Goals as goal

pub returns-then-not-claim : goal.returns-then-not-claim
returns-then-not-claim c =
    let e = rw c.deref_mut.ensures.value at c.if-not-claim.ensures.other in
    two_givers (length c.args.group.now) c.loop-giver.giver-index c.args.group.now c.args.gifts.now c.loop-giver.givers.items c.loop-giver.invariant c.loop-giver-test.true e.0 e.1 e.2

pub loop-giver-preserved : goal.loop-giver-preserved
loop-giver-preserved c =
    let n = length c.args.group.now in
    let i = c.loop-giver.giver-index in
    let made = rw c.deref_mut.ensures.value at c.if-not-claim.ensures.made in
    let free = rw c.deref_mut.ensures.value at c.if-not-claim.ensures.free in
    let more = one_more n i c.args.group.now c.args.gifts.now c.loop-giver.givers.items c.loop-giver.invariant c.loop-giver-test.true (c.requires.groups (get_or c.args.gifts.now i (0, 0)).1 0 (c.requires.relations i (0, 0) c.loop-giver-test.true)) free in
    let back = with_items_is c.loop-giver.givers c.claim.new.givers (ap length made ∙ length-set c.loop-giver.givers.items _ _ ∙ sym c.loop-giver.givers.ok.0) in
    subst (λ (gs : List (Option ℕ)). AreGivers n (i + 1) c.args.group.now c.args.gifts.now gs) (sym (back ∙ made)) more

pub returns : goal.returns
returns c = one_giver _ _ _ _ _ c.loop-giver-test.false c.loop-giver.invariant
