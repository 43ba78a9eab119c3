use Rattle.std.proofs.Common.{◌≡◌, ◌++◌, drop}
use Rattle.pt_meaning.specs.Process.{puts_of}
use Rattle.pt_puts.specs.Puts.{puts_in}
use Rattle.pt_rv_plan.proofs.staged.stage_outputs.Given as goal

abbrev pub invariant-loop-port : goal.invariant-loop-port
invariant-loop-port l = puts_in l.staged.items ++ puts_of l.plan.plan.net.sources l.process l.port (drop l.port l.outputs) ≡ puts_of l.plan.plan.net.sources l.process 0 l.outputs
