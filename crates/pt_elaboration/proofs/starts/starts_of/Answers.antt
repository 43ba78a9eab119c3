use Rattle.std.proofs.Common.{length, ap, arith}
use Rattle.pt_typing.specs.Least.{assignment}
use Rattle.pt_elaboration.proofs.Lists.{read-at}
use Rattle.pt_elaboration.proofs.StartLaws.{start-same, first-more, first-all}
use Rattle.pt_elaboration.proofs.starts.starts_of.Goals as goal

pub loop-number-preserved : goal.loop-number-preserved
loop-number-preserved c =
    let net = c.args.net.now in
    let typing = assignment c.args.typing.now in
    let k = c.loop-number.number in
    let e = c.entity-item.result in
    let at = read-at net.entities.items c.deref-entity-items.result.now k e c.deref-entity-items.ensures.value c.loop-number-test.true c.entity-item.is in
    first-more net c.args.values.now typing k c.loop-number.starts.items c.add_start.new.begun.items e c.in_ok-add_start.ensures.start c.loop-number.invariant at
    (start-same c.in_ok-prepared.prepared.net.now net c.in_ok-prepared.prepared.values.now c.args.values.now typing k e c.in_ok-add_start.ensures.start (ap (λ r. r.now) c.in_ok-prepared.ensures.0) (ap (λ r. r.now) c.in_ok-prepared.ensures.1) c.in_ok-add_start.ensures.is_start)
    c.in_ok-add_start.ensures.is_last

pub returns : goal.returns
returns c =
    first-all c.args.net.now c.args.values.now (assignment c.args.typing.now) c.loop-number.number c.loop-number.starts.items (omega (arith, c.loop-number-test.false, c.loop-number.auto.number-end, ap length c.deref-entity-items.ensures.value)) c.loop-number.invariant
