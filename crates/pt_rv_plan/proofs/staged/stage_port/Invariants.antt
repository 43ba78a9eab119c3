use Rattle.std.proofs.Common.{◌≡◌, ◌++◌, take}
use Rattle.pt_meaning.specs.Process.{puts_of_port}
use Rattle.pt_puts.specs.Puts.{puts_in}
use Rattle.pt_rv_plan.proofs.staged.stage_port.Given as goal

abbrev pub invariant-loop-token : goal.invariant-loop-token
invariant-loop-token l = puts_in l.staged.items ≡ puts_in l.fn.staged.items ++ puts_of_port l.fan (take l.token-index l.tokens)
