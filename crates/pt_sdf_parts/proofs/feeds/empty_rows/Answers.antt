use Rattle.std.proofs.Common.{◌+◌, [], ap, ◌∙◌, arith}
use Rattle.std.proofs.lemmas.List.{map-append, replicate_more}
use Rattle.pt_sdf_parts.proofs.FeedLaws.{empty-rows}
use Rattle.pt_sdf_parts.proofs.feeds.empty_rows.Goals as goal

pub loop-preserved : goal.loop-preserved
loop-preserved c = (
  rw (c.push_reserved.ensures.items, map-append, c.loop.invariant.0, c.new.ensures.items) (replicate_more c.loop.counter []),
  c.push_reserved.ensures.len ∙ ap (λ n. n + 1) c.loop.invariant.1,
  c.push_reserved.ensures.capacity ∙ c.loop.invariant.2,
)

pub returns : goal.returns
returns c = empty-rows c.args.n c.loop.counter c.loop.rows.items c.loop.invariant.0 (omega arith)
