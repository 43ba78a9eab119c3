use Rattle.std.proofs.Common.{ap, ◌++◌, arith}
use Rattle.pt_core.specs.Source.{source_of}
use Rattle.pt_puts.specs.Puts.{puts_in}
use Rattle.pt_process.specs.Process.{arrivals}
use Rattle.pt_process.proofs.StagedLaws.{arrivals-more, arrivals-all}
use Rattle.pt_process.proofs.staged.stage_inputs.Goals as goal

pub loop-channel-init : goal.loop-channel-init
loop-channel-init c = ap (λ v. puts_in v ++ arrivals 0 c.args.network.now.plan.net.sources c.args.inputs.now) c.clear.ensures.items

pub loop-channel-preserved : goal.loop-channel-preserved
loop-channel-preserved c =
    arrivals-more c.args.network.now.plan.net.sources c.loop-channel.channel c.args.inputs.now (source_of c.source-source.result) (puts_in c.loop-channel.staged.items) (puts_in c.stage_arrival.new.staged.items) (arrivals 0 c.args.network.now.plan.net.sources c.args.inputs.now)
    c.source-source.ensures c.in_ok-stage_arrival.ensures c.loop-channel.invariant

pub returns : goal.returns
returns c =
    arrivals-all c.args.network.now.plan.net.sources c.loop-channel.channel c.args.inputs.now (puts_in c.loop-channel.staged.items) (arrivals 0 c.args.network.now.plan.net.sources c.args.inputs.now) (omega (arith, c.loop-channel-test.false, c.channels-channel-end.ensures.count)) c.loop-channel.invariant
