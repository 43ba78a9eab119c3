use Rattle.pt_puts.specs.Puts.{puts_in}
use Rattle.pt_puts.proofs.PutLaws.{port-more}
use Rattle.pt_process.proofs.staged.stage_port.Goals as goal

pub loop-token-preserved : goal.loop-token-preserved
loop-token-preserved c =
    port-more c.args.fan.now c.args.tokens.now c.loop-token.token-index c.token-item.result (puts_in c.args.staged.now.items) (puts_in c.loop-token.staged.items) (puts_in c.stage_token.new.staged.items) c.loop-token-test.true c.token-item.is c.loop-token.invariant c.in_ok-stage_token.ensures
