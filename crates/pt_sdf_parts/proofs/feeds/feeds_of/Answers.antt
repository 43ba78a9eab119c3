use Rattle.std.proofs.Common.{◌<◌, length, map, arith}
use Rattle.pt_core.specs.Source.{source_of}
use Rattle.pt_sdf_parts.proofs.MarkLaws.{row-marked, rows-once}
use Rattle.pt_sdf_parts.proofs.feeds.feeds_of.Goals as goal

pub loop-r-preserved : goal.loop-r-preserved
loop-r-preserved c =
    let h : c.loop-r.r < length c.loop-r.rows.items = omega (arith, c.loop-r-test.true, c.loop-r.invariant.ends, c.loop-r.invariant.targets.counted) in
    record {
      ends = c.loop-r.invariant.ends;
      targets = row-marked _ _ _ _ c.index_mut-row.result.now _ h c.index_mut-row.ensures.value c.mark.ensures.targets c.loop-r.invariant.targets;
      moves = rows-once (length c.args.plan.now.places) (map source_of c.args.plan.now.sources.items) _ _ c.index_mut-row.result.now _ h c.index_mut-row.ensures.value c.in_ok-mark.ensures.moves c.loop-r.invariant.moves;
    }
