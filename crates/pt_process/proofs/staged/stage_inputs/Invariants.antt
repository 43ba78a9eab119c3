use Rattle.std.proofs.Common.{◌≡◌, ◌++◌, drop}
use Rattle.pt_puts.specs.Puts.{puts_in}
use Rattle.pt_process.specs.Process.{arrivals}
use Rattle.pt_process.proofs.staged.stage_inputs.Given as goal

abbrev pub invariant-loop-channel : goal.invariant-loop-channel
invariant-loop-channel l = puts_in l.staged.items ++ arrivals l.channel (drop l.channel l.network.plan.net.sources) l.inputs ≡ arrivals 0 l.network.plan.net.sources l.inputs
