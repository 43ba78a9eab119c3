use Rattle.std.proofs.Common.{◌≡◌, ◌+◌, drop, max, arith}
use Rattle.pt_language.specs.Deep.{most_open}
use Rattle.pt_expr_text.proofs.Counting.{most_turn}
use Rattle.pt_expr_text.proofs.deep.most_open.Goals as goal
use Rattle.pt_expr_text.proofs.deep.most_open.Goals.{then-most-now, else-most-now}

pub loop-word-preserved : goal.loop-word-preserved
loop-word-preserved c =
    let words = c.args.words.now in
    let i = c.loop-word.word-index in
    let t = most_turn words i c.word-item.result c.loop-word.now c.loop-word.most (most_open 0 words) c.loop-word-test.true c.word-item.is c.loop-word.invariant.2 c.loop-word.invariant.0 in
    let u : max (max c.loop-word.most c.open_behind-now.result) (most_open c.open_behind-now.result (drop (i + 1) words)) ≡ most_open 0 words = rw c.open_behind-now.ensures.value t in
    elim c.if-most-now.branch [
      | then-most-now w ↦ (omega (arith, u), omega arith, omega arith)
      | else-most-now w ↦ (omega (arith, u), omega arith, omega arith)
    ]
