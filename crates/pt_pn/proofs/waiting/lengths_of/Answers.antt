use Rattle.std.proofs.Common.{◌++◌, ap, refl, arith}
use Rattle.pt_meaning.specs.Jam.{waited_from}
use Rattle.pt_pn.proofs.WaitLaws.{full-more, full-all}
use Rattle.pt_pn.proofs.waiting.lengths_of.Goals as goal

pub loop-channel-init : goal.loop-channel-init
loop-channel-init c puts m = ap (λ v. v ++ waited_from 0 c.args.queues.now.lists puts) c.new-full.ensures.items

pub loop-channel-preserved : goal.loop-channel-preserved
loop-channel-preserved c = full-more c.loop-channel.full.items c.add_length.new.full.items c.loop-channel.channel c.args.queues.now.lists c.args.marks.now _ (omega (arith, c.loop-channel-test.true, c.requires.counted)) c.requires.counted refl c.in_ok-add_length.ensures c.loop-channel.invariant

pub returns : goal.returns
returns c puts m = full-all c.loop-channel.full.items c.loop-channel.channel c.args.queues.now.lists c.args.marks.now (omega (arith, c.loop-channel-test.false, c.requires.counted)) c.loop-channel.invariant puts m
