use Rattle.std.proofs.Common.{get_or, refl}
use Rattle.pt_puts.specs.Puts.{puts_in}
use Rattle.pt_puts.proofs.PutLaws.{each-more}
use Rattle.pt_rv_plan.proofs.staged.stage_token.Goals as goal

pub loop-channel-preserved : goal.loop-channel-preserved
loop-channel-preserved c =
    each-more c.args.token.now c.args.fan.now c.loop-channel.channel-index (puts_in c.args.staged.now.items) (puts_in c.loop-channel.staged.items) (puts_in c.stage.new.staged.items) (get_or c.args.fan.now c.loop-channel.channel-index 0) c.loop-channel-test.true c.loop-channel.invariant refl c.in_ok-stage.ensures
