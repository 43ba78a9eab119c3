use Rattle.std.proofs.Common.{ℕ, ◌<◌, length, ◌∙◌, arith, length-set}
use Rattle.pt_puts.proofs.LineLaws.{row-more, row-all, behind-taken, line-behind}
use Rattle.pt_rv_parts.proofs.process.hand_over.Goals as goal

pub loop-place-preserved : goal.loop-place-preserved
loop-place-preserved c =
    let k : ℕ = c.loop-place.place in
    let l : k < length c.args.lines.now.items = omega (arith, c.loop-place-test.true, c.len-place-end.ensures, c.args.lines.now.ok.0) in
    let n : k < length c.loop-place.lines.items = omega (arith, l, c.loop-place.invariant.counted) in
    record {
      row = row-more c.args.lines.now.items c.args.row.now.items c.loop-place.row.items k c.take-tokens.result l c.requires c.loop-place.invariant.row (c.take-tokens.ensures.taken ∙ line-behind c.args.lines.now.items c.loop-place.lines.items k c.index_mut-line.result.now n c.loop-place.invariant.lines c.index_mut-line.ensures.value);
      lines = behind-taken c.args.lines.now.items c.loop-place.lines.items k c.take-tokens.new.self c.loop-place.invariant.lines;
      counted = length-set c.loop-place.lines.items k c.take-tokens.new.self ∙ c.loop-place.invariant.counted;
    }

pub returns-clause-row : goal.returns-clause-row
returns-clause-row c = row-all c.args.lines.now.items c.args.row.now.items c.loop-place.row.items c.loop-place.place (omega (arith, c.loop-place-test.false, c.len-place-end.ensures, c.args.lines.now.ok.0)) c.requires c.loop-place.invariant.row
