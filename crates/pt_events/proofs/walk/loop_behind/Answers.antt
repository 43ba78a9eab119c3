use Rattle.std.proofs.Common.{◌<◌, length, reverse, drop, Some, None, ap, ◌∙◌, arith}
use Rattle.pt_events.specs.Found.{FeedsBy}
use Rattle.pt_events.proofs.FoundLaws.{list-read, inside-at}
use Rattle.pt_events.proofs.WalkLaws.{place-read, walk-step, fall-at, walk-cycle, cycle-at}
use Rattle.pt_events.proofs.walk.loop_behind.Goals as goal

pub turned-requires : goal.turned-requires
turned-requires c =
    let within : c.steps.child < length c.steps.places.items = omega (arith, c.steps.invariant.inside, c.steps.invariant.counted) in
    let at = place-read c.steps.places.items c.steps.child c.index.result.now (Some c.in-Some.place) within c.index.ensures c.in-Some.is in
    omega (arith, (c.steps.invariant.placed c.steps.child c.in-Some.place at).0, ap length c.deref.ensures.value)

pub returns-in-Some : goal.returns-in-Some
returns-in-Some c =
    let within : c.steps.child < length c.steps.places.items = omega (arith, c.steps.invariant.inside, c.steps.invariant.counted) in
    let at = place-read c.steps.places.items c.steps.child c.index.result.now (Some c.in-Some.place) within c.index.ensures c.in-Some.is in
    cycle-at (λ v. v.items) (FeedsBy c.args.feeders.now) (reverse (drop c.in-Some.place c.steps.path.items)) (reverse (drop c.in-Some.place c.deref.result.now)) c.turned.result c.turned.ensures (ap (λ l. reverse (drop c.in-Some.place l)) c.deref.ensures.value)
    (walk-cycle c.args.feeders.now c.args.known.now c.steps.path.items c.steps.places.items c.steps.child c.steps.invariant c.in-Some.place at)

pub unknown_of-requires : goal.unknown_of-requires
unknown_of-requires c =
    let at = list-read c.args.feeders.now c.steps.child c.index-feeders-child.result c.as_slice.result.now c.steps.invariant.inside c.index-feeders-child.is c.as_slice.ensures in
    inside-at c.args.feeders.now c.steps.child (length c.args.known.now) c.as_slice.result.now at c.steps.invariant.inside c.requires.flags c.requires.inside

pub steps-preserved : goal.steps-preserved
steps-preserved c =
    let at = list-read c.args.feeders.now c.steps.child c.index-feeders-child.result c.as_slice.result.now c.steps.invariant.inside c.index-feeders-child.is c.as_slice.ensures in
    walk-step c.args.feeders.now c.args.known.now c.steps.path.items c.push.new.self.items c.steps.places.items c.steps.child c.in-Some-unknown_of.feeder c.len.result c.as_slice.result.now c.steps.invariant c.requires.inside c.in_ok-push.ensures.items (c.len.ensures ∙ c.steps.path.ok.0) at c.in-Some-unknown_of.ensures.0 c.in-Some-unknown_of.ensures.1

pub steps-smaller : goal.steps-smaller
steps-smaller c =
    let within : c.steps.child < length c.steps.places.items = omega (arith, c.steps.invariant.inside, c.steps.invariant.counted) in
    fall-at c.args.feeders.now c.args.known.now c.steps.path.items c.steps.places.items c.steps.child c.len.result c.steps.invariant (c.len.ensures ∙ c.steps.path.ok.0) (place-read c.steps.places.items c.steps.child c.index.result.now None within c.index.ensures c.in-None.is)
