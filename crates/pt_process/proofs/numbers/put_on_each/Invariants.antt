use Rattle.std.proofs.Common.{◌≡◌, take}
use Rattle.pt_meaning.specs.Process.{to_each}
use Rattle.pt_value.specs.declared.token.Token.TheVariants.{Int}
use Rattle.pt_puts.specs.Puts.{puts_in}
use Rattle.pt_process.proofs.numbers.put_on_each.Given as goal

abbrev pub invariant-loop-channel : goal.invariant-loop-channel
invariant-loop-channel l = puts_in l.puts.items ≡ to_each (Int l.number) (take l.channel-index l.fan)
