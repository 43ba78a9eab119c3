use Rattle.std.proofs.Common.{ℕ, length, ap, ◌∙◌, arith}
use Rattle.pt_process.proofs.StagedLaws.{each-promised, kept-on}
use Rattle.pt_process.proofs.staged.promise_each.Goals as goal

pub promise_one-requires-clause-there : goal.promise_one-requires-clause-there
promise_one-requires-clause-there c =
    let k : ℕ = c.loop-channel.channel-index in
    let a = c.requires.there k 0 c.loop-channel-test.true in
    let e = ap (λ v. length v) c.loop-channel.invariant.lists in
    omega (arith, a, e)

pub loop-channel-preserved : goal.loop-channel-preserved
loop-channel-preserved c = record {
  lists = c.in_ok-promise_one.ensures.lists ∙ c.loop-channel.invariant.lists;
  spares = c.in_ok-promise_one.ensures.spares ∙ c.loop-channel.invariant.spares;
  counted = c.in_ok-promise_one.ensures.counted ∙ c.loop-channel.invariant.counted;
  room = c.in_ok-promise_one.ensures.room;
  kept = kept-on c.args.promised.now.items c.loop-channel.promised.items c.promise_one.new.promised.items c.loop-channel.invariant.kept c.in_ok-promise_one.ensures.kept;
  promised = λ x. each-promised x c.args.fan.now c.loop-channel.channel-index c.args.promised.now.items c.loop-channel.promised.items c.promise_one.new.promised.items c.loop-channel-test.true (c.loop-channel.invariant.promised x) c.in_ok-promise_one.ensures.kept c.in_ok-promise_one.ensures.more;
}
