use Rattle.std.proofs.Common.{ap, ap₂, ◌++◌, ◌∙◌, arith}
use Rattle.pt_meaning.specs.Process.{puts_of, puts_of_port}
use Rattle.pt_puts.specs.Puts.{puts_in}
use Rattle.pt_puts.proofs.PutLaws.{outputs-more, outputs-all}
use Rattle.pt_process.proofs.staged.stage_outputs.Goals as goal

pub loop-port-init : goal.loop-port-init
loop-port-init c = ap (λ v. puts_in v ++ puts_of c.args.network.now.plan.net.sources c.args.process 0 c.args.outputs.now) c.clear.ensures.items

pub loop-port-preserved : goal.loop-port-preserved
loop-port-preserved c =
    outputs-more c.args.network.now.plan.net.sources c.args.process c.loop-port.port c.args.outputs.now (puts_in c.loop-port.staged.items) (puts_in c.stage_port.new.staged.items) (puts_of c.args.network.now.plan.net.sources c.args.process 0 c.args.outputs.now) (omega (arith, c.loop-port-test.true, c.ports-port-end.ensures))
    (c.in_ok-stage_port.ensures ∙ ap₂ (λ f v. puts_in c.loop-port.staged.items ++ puts_of_port f v) c.fan-fan.ensures c.list.ensures) c.loop-port.invariant

pub returns : goal.returns
returns c = outputs-all c.args.network.now.plan.net.sources c.args.process c.loop-port.port c.args.outputs.now (puts_in c.loop-port.staged.items) (puts_of c.args.network.now.plan.net.sources c.args.process 0 c.args.outputs.now) (omega (arith, c.loop-port-test.false, c.ports-port-end.ensures)) c.loop-port.invariant
