use Rattle.std.proofs.Common.{◌≡◌, ℕ, ◌+◌, ◌-◌, ◌<◌, List, ◌++◌, length, replicate, get_or, set, refl, sym, ap, subst, ◌∙◌, arith}
use Rattle.std.proofs.lemmas.List.{get_or_read, length-set, with_items_is}
use Rattle.std.specs.Vec.{with_items}
use Rattle.pt_sched.specs.Channels.{AreSmall}
use Rattle.pt_sched.specs.Runs.{AreGreatestLengths}
use Rattle.pt_sched.specs.State.{IsCounted}
use Rattle.pt_sched.specs.Stretches.{spread}
use Rattle.pt_sched.specs.declared.lists.Side.TheVariants.{Start}
use Rattle.pt_sched.proofs.Listing.{listed-inside}
use Rattle.pt_sched.proofs.Spreading.{spread-times}
use Rattle.pt_sched.proofs.Steps.{fired-more, few-times, small-times, lacking-inside, held-fired}
use Rattle.pt_sched.proofs.run.Run.fire.Goals as goal

pub raise-requires-clause-inside : goal.raise-requires-clause-inside
raise-requires-clause-inside c = listed-inside Start c.args.channels.now c.args.child c.args.outs.now c.requires.outs

pub overflow_cast-again : goal.overflow_cast-again
overflow_cast-again c = omega (arith, few-times c.args.q.now c.args.child (get_or c.args.self.now.fired.items c.args.child 0) c.args.times c.requires.q c.requires.ready.lacking)

pub raise-requires-clause-small : goal.raise-requires-clause-small
raise-requires-clause-small c =
    let fired : List ℕ = c.args.self.now.fired.items in
    let child : ℕ = c.args.child in
    let times : ℕ = c.args.times in
    let inside : child < length fired = omega (arith, lacking-inside c.args.q.now child (get_or fired child 0) (omega (arith, c.requires.ready.some, c.requires.ready.lacking)), c.requires.held.counted) in
    let read : c.index_mut.result.now ≡ get_or fired child 0 = get_or_read fired child c.index_mut.result.now inside c.index_mut.ensures.value 0 in
    let counts : set fired child (get_or fired child 0 + times) ≡ set fired child (c.index_mut.result.now + times) = ap (λ n. set fired child (n + times)) (sym read) in
    subst AreSmall (sym c.deref.ensures.value) (subst AreSmall counts (small-times c.args.q.now fired child times c.requires.q c.requires.held.small c.requires.ready.lacking))

pub returns-clause-order : goal.returns-clause-order
returns-clause-order c =
    ap spread c.in_ok-push.ensures.items ∙ spread-times c.args.self.now.order.items c.args.child c.args.times (c.args.times - 1) c.requires.ready.some refl

pub returns-clause-held : goal.returns-clause-held
returns-clause-held c =
    let order : List ℕ = spread c.args.self.now.order.items in
    let fired : List ℕ = c.args.self.now.fired.items in
    let child : ℕ = c.args.child in
    let times : ℕ = c.args.times in
    let inside : child < length fired = omega (arith, lacking-inside c.args.q.now child (get_or fired child 0) (omega (arith, c.requires.ready.some, c.requires.ready.lacking)), c.requires.held.counted) in
    let read : c.index_mut.result.now ≡ get_or fired child 0 = get_or_read fired child c.index_mut.result.now inside c.index_mut.ensures.value 0 in
    let counts : set fired child (get_or fired child 0 + times) ≡ set fired child (c.index_mut.result.now + times) = ap (λ n. set fired child (n + times)) (sym read) in
    let more : IsCounted (set fired child (c.index_mut.result.now + times)) (order ++ replicate times child) = subst (λ xs. IsCounted xs (order ++ replicate times child)) counts (fired-more order fired child times c.requires.held.fired inside) in
    let raised : AreGreatestLengths c.args.channels.now (order ++ replicate times child) c.raise.new.lengths = c.raise.ensures order child times (subst (λ xs. IsCounted xs (order ++ replicate times child)) (sym c.deref.ensures.value) more) c.requires.outs (subst (AreGreatestLengths c.args.channels.now order) (sym c.deref_mut.ensures.value) c.requires.held.lengths) in
    let longer : spread c.push.new.self.items ≡ order ++ replicate times child = ap spread c.in_ok-push.ensures.items ∙ spread-times c.args.self.now.order.items child times (times - 1) c.requires.ready.some refl in
    let h =
    held-fired c.args.channels.now c.args.q.now order (spread c.push.new.self.items) fired (set fired child (c.index_mut.result.now + times)) (with_items c.args.self.now.lengths c.raise.new.lengths).items child times c.requires.q c.requires.held.order c.requires.held.fired c.requires.held.counted c.requires.ready longer more (length-set fired child (c.index_mut.result.now + times))
    (subst (AreGreatestLengths c.args.channels.now (order ++ replicate times child)) (sym (with_items_is c.args.self.now.lengths c.raise.new.lengths (c.raise.auto.lengths ∙ c.deref_mut.ensures.len))) raised)
    in
    record { order = h.0; counted = h.1; fired = h.2; small = h.3; lengths = h.4 }
