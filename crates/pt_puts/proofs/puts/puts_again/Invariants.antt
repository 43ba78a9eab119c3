use Rattle.std.proofs.Common.{◌≡◌, take}
use Rattle.pt_puts.specs.Puts.{puts_in}
use Rattle.pt_puts.proofs.puts.puts_again.Given as goal

abbrev pub invariant-loop-k : goal.invariant-loop-k
invariant-loop-k l = puts_in l.copies.items ≡ puts_in (take l.k l.puts.items)
