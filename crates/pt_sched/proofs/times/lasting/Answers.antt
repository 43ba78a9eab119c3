use Rattle.std.proofs.Common.{get_or, below_more, arith}
use Rattle.pt_sched.proofs.Lasting.{lasting-fewer, has-tokens-for}
use Rattle.pt_sched.proofs.Listing.{no_channel}
use Rattle.pt_sched.proofs.times.lasting.Goals as goal

pub lasting_on-lasting-requires-clause-filled : goal.lasting_on-lasting-requires-clause-filled
lasting_on-lasting-requires-clause-filled c = c.requires.filled c.loop-number.number-index 0 c.loop-number-test.true no_channel

pub loop-number-preserved : goal.loop-number-preserved
loop-number-preserved c = record {
  some = c.lasting_on-lasting.ensures.some;
  fewer = omega (arith, c.lasting_on-lasting.ensures.fewer, c.loop-number.invariant.fewer);
  tokens =
      below_more _ _ (lasting-fewer c.args.channels.now (λ k. get_or c.args.fired.now k 0) c.lasting_on-lasting.result c.loop-number.lasting c.args.ins.now c.loop-number.number-index c.lasting_on-lasting.ensures.fewer c.loop-number.invariant.tokens) c.lasting_on-lasting.ensures.lasts;
}

pub returns-clause-tokens : goal.returns-clause-tokens
returns-clause-tokens c = λ child at. has-tokens-for c.args.channels.now (λ k. get_or c.args.fired.now k 0) child c.loop-number.lasting c.args.ins.now at c.loop-number.number-index c.loop-number-test.false c.loop-number.invariant.tokens
