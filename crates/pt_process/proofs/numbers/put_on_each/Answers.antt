use Rattle.std.proofs.Common.{[], get_or, refl}
use Rattle.pt_puts.specs.Puts.{puts_in}
use Rattle.pt_puts.proofs.PutLaws.{each-more}
use Rattle.pt_process.proofs.numbers.put_on_each.Goals as goal

pub loop-channel-preserved : goal.loop-channel-preserved
loop-channel-preserved c =
    each-more _ c.args.fan.now c.loop-channel.channel-index [] (puts_in c.loop-channel.puts.items) (puts_in c.put_on.new.puts.items) (get_or c.args.fan.now c.loop-channel.channel-index 0) c.loop-channel-test.true c.loop-channel.invariant refl c.in-Ok.ensures
