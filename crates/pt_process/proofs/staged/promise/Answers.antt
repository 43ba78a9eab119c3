use Rattle.std.proofs.Common.{ℕ, ◌<◌, length, ap, ◌∙◌, arith}
use Rattle.pt_process.proofs.StagedLaws.{promised-more, channel-there, kept-on}
use Rattle.pt_process.proofs.staged.promise.Goals as goal

pub promise_one-requires-clause-there : goal.promise_one-requires-clause-there
promise_one-requires-clause-there c =
    let k : ℕ = c.loop-k.k in
    let l : k < length c.args.staged.now.items = omega (arith, c.loop-k-test.true, c.len-k-end.ensures, c.args.staged.now.ok.0) in
    let a = channel-there (length c.args.queues.now.lists) c.args.staged.now.items k c.index.result.now l c.index.ensures c.requires.there in
    let e = ap (λ v. length v) c.loop-k.invariant.lists in
    omega (arith, a, e)

pub loop-k-preserved : goal.loop-k-preserved
loop-k-preserved c =
    let k : ℕ = c.loop-k.k in
    let l : k < length c.args.staged.now.items = omega (arith, c.loop-k-test.true, c.len-k-end.ensures, c.args.staged.now.ok.0) in
    record {
      lists = c.in_ok-promise_one.ensures.lists ∙ c.loop-k.invariant.lists;
      spares = c.in_ok-promise_one.ensures.spares ∙ c.loop-k.invariant.spares;
      counted = c.in_ok-promise_one.ensures.counted ∙ c.loop-k.invariant.counted;
      room = c.in_ok-promise_one.ensures.room;
      kept = kept-on c.args.promised.now.items c.loop-k.promised.items c.promise_one.new.promised.items c.loop-k.invariant.kept c.in_ok-promise_one.ensures.kept;
      promised = promised-more c.args.staged.now.items k c.index.result.now c.args.promised.now.items c.loop-k.promised.items c.promise_one.new.promised.items l c.index.ensures c.loop-k.invariant.promised c.in_ok-promise_one.ensures.kept c.in_ok-promise_one.ensures.more;
    }
