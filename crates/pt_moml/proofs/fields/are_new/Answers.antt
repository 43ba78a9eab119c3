use Rattle.std.proofs.Common.{sym, ap}
use Rattle.pt_document.specs.Names.{are_distinct_after}
use Rattle.pt_document.proofs.DistinctNames.{repeats, goes_on}
use Rattle.pt_moml.proofs.fields.are_new.Goals as goal

pub returns-then-not-is_new : goal.returns-then-not-is_new
returns-then-not-is_new g c =
    sym (repeats _ g.T.Named.name g.T.Named.names g.met.T.Named.of_more c.args.parts.now c.loop-part.seen.keys c.loop-part.part-index c.part-item.result c.name.result _ c.loop-part-test.true c.part-item.is c.name.ensures c.loop-part.invariant c.in_ok-is_new.is_new c.in_ok-is_new.ensures.added c.if-not-is_new.true)

pub loop-part-preserved : goal.loop-part-preserved
loop-part-preserved g c =
    goes_on _ g.T.Named.name g.T.Named.names g.met.T.Named.of_more c.args.parts.now c.loop-part.seen.keys c.loop-part.part-index c.part-item.result c.name.result _ c.loop-part-test.true c.part-item.is c.name.ensures c.loop-part.invariant c.in_ok-is_new.is_new c.insert_full.new.self.keys c.in_ok-is_new.ensures.added c.if-not-is_new.false c.in_ok-is_new.ensures.keys

pub loop-part-init : goal.loop-part-init
loop-part-init g c = ap (λ ns. are_distinct_after ns (g.T.Named.names c.args.parts.now)) c.requires
