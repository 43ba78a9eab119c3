use Rattle.std.proofs.Common.{◌∙◌, arith}
use Rattle.pt_reaction.specs.Channels.{lists_of}
use Rattle.pt_puts.proofs.LineLaws.{lines-long}
use Rattle.pt_rv_parts.proofs.GatherLaws.{empties-more, empties-all}
use Rattle.pt_rv_parts.proofs.renew.empty_lines_again.Goals as goal

pub loop-place-preserved : goal.loop-place-preserved
loop-place-preserved c = record {
  counted = c.empty_line.ensures.counted ∙ c.loop-place.invariant.counted;
  empty = empties-more (lists_of c.loop-place.lines.items) (lists_of c.empty_line.new.lines.items) c.loop-place.place c.loop-place.invariant.empty c.empty_line.ensures.empty c.empty_line.ensures.others;
}

pub returns-clause-empty : goal.returns-clause-empty
returns-clause-empty c =
    empties-all (lists_of c.loop-place.lines.items) c.loop-place.place
    (let n = lines-long c.loop-place.lines.items in omega (arith, n, c.loop-place.invariant.counted, c.loop-place-test.false, c.len-place-end.ensures, c.args.lines.now.ok.0)) c.loop-place.invariant.empty
