use Rattle.std.proofs.Common.{refl}
use Rattle.pt_net.specs.Net.{entity_view}
use Rattle.pt_scopes.specs.Scopes.{net_view}
use Rattle.pt_start.proofs.Misplacing.{entity-at, one-more, none-misplaced}
use Rattle.pt_start.proofs.refusals.misplaced.Goals as goal

pub loop-number-preserved : goal.loop-number-preserved
loop-number-preserved c =
    let net = net_view c.args.net.now in
    let e = c.entity-item.result in
    let at = entity-at c.args.net.now.entities.items c.deref-entity-items.result.now c.loop-number.number e c.deref-entity-items.ensures.value c.loop-number-test.true c.entity-item.is in
    one-more net c.args.values.now c.loop-number.number (entity_view e) at (c.cause_at.ensures.none c.in_default.is) c.loop-number.invariant

pub returns-clause-none : goal.returns-clause-none
returns-clause-none c = λ none.
    none-misplaced (net_view c.args.net.now) c.args.values.now c.args.net.now.entities.items c.deref-entity-items.result.now c.loop-number.number c.deref-entity-items.ensures.value refl c.loop-number-test.false c.loop-number.invariant
