use Rattle.std.proofs.Common.{◌≡◌, ◌++◌, take}
use Rattle.pt_meaning.specs.Process.{to_each}
use Rattle.pt_puts.specs.Puts.{puts_in}
use Rattle.pt_process.proofs.staged.stage_token.Given as goal

abbrev pub invariant-loop-channel : goal.invariant-loop-channel
invariant-loop-channel l = puts_in l.staged.items ≡ puts_in l.fn.staged.items ++ to_each l.token (take l.channel-index l.fan)
