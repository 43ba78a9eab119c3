use Rattle.std.proofs.Common.{ℕ, ◌<◌, length, Option, ap, ◌∙◌, sym, arith, zero-add}
use Rattle.pt_reaction.specs.Channels.{lists_of}
use Rattle.pt_puts.proofs.LineLaws.{lacking-some, lacking-none, lines-long, full-next, line-lacks}
use Rattle.pt_process.proofs.process.lacking_of.Goals as goal

pub returns-then-have-count-clause-place : goal.returns-then-have-count-clause-place
returns-then-have-count-clause-place c =
    let k : ℕ = c.loop-place.place in
    let l : k < length c.args.counts.now = c.loop-place-test.true in
    let n = lines-long c.args.lines.now in
    let have = line-lacks c.args.lines.now k c.index-lines-place.result c.len-have.result (omega (arith, l, c.requires.counted)) c.index-lines-place.is c.len-have.ensures in
    sym
    (lacking-some c.args.counts.now (lists_of c.args.lines.now) 0 k c.loop-place.invariant l (omega (arith, n, c.requires.counted)) (omega (arith, have, c.if-have-count.true)) ∙
    ap (λ v. Option.Some v) (zero-add k))

pub loop-place-preserved : goal.loop-place-preserved
loop-place-preserved c =
    let k : ℕ = c.loop-place.place in
    let l : k < length c.args.counts.now = c.loop-place-test.true in
    let have = line-lacks c.args.lines.now k c.index-lines-place.result c.len-have.result (omega (arith, l, c.requires.counted)) c.index-lines-place.is c.len-have.ensures in
    full-next c.args.counts.now (lists_of c.args.lines.now) k c.loop-place.invariant (omega (arith, have, c.if-have-count.false))

pub returns-clause-place : goal.returns-clause-place
returns-clause-place c = sym (lacking-none c.args.counts.now (lists_of c.args.lines.now) 0 (λ q w. c.loop-place.invariant q (omega (arith, w, c.loop-place-test.false))))
