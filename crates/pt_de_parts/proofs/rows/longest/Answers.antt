use Rattle.std.proofs.Common.{max, ap, ◌∙◌, arith}
use Rattle.pt_de_parts.proofs.RowLaws.{longest-more}
use Rattle.pt_de_parts.proofs.rows.longest.Goals as goal

pub loop-place-preserved : goal.loop-place-preserved
loop-place-preserved c =
    longest-more c.args.lines.now c.args.places c.loop-place.place c.index-lines-place.result c.loop-place.most c.max-most.result c.loop-place-test.true (omega (arith, c.loop-place.auto.place)) c.requires c.index-lines-place.is c.loop-place.invariant (c.max-most.ensures ∙ ap (λ n. max n c.loop-place.most) c.len-count.ensures)
