use Rattle.std.proofs.Common.{length, get_or, arith}
use Rattle.pt_sched.specs.declared.lists.Side.TheVariants.{End}
use Rattle.pt_sched.proofs.Lasting.{ready-each, puts-some}
use Rattle.pt_sched.proofs.Listing.{listed-inside}
use Rattle.pt_sched.proofs.times.times.Goals as goal

pub returns-then-lacking-eq1 : goal.returns-then-lacking-eq1
returns-then-lacking-eq1 c = record {
  some = omega arith;
  lacking = omega (arith, c.requires.ready.0);
  tokens = λ k d short to. omega (arith, c.requires.ready.1 k d short to);
}

pub bounded-requires-clause-channels : goal.bounded-requires-clause-channels
bounded-requires-clause-channels c = puts-some (length c.args.q.now) c.args.channels.now c.requires.channels

pub lasting-requires-clause-inside : goal.lasting-requires-clause-inside
lasting-requires-clause-inside c = listed-inside End c.args.channels.now c.args.child c.args.ins.now c.requires.ins

pub lasting-requires-clause-filled : goal.lasting-requires-clause-filled
lasting-requires-clause-filled c = ready-each c.args.channels.now (λ k. get_or c.args.fired.now k 0) c.args.child c.args.ins.now c.requires.ins c.requires.ready.1

pub returns : goal.returns
returns c = record {
  some = c.lasting.ensures.some;
  lacking = omega (arith, c.lasting.ensures.fewer, c.bounded.ensures.fewer, c.requires.ready.0);
  tokens = c.lasting.ensures.tokens c.args.child c.requires.ins;
}
