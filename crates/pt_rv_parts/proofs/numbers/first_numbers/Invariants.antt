use Rattle.std.proofs.Common.{◌≡◌, take}
use Rattle.pt_firing.specs.IntInputs.{one_at_each}
use Rattle.pt_rv_parts.proofs.numbers.first_numbers.Given as goal

abbrev pub invariant-loop-k : goal.invariant-loop-k
invariant-loop-k l = one_at_each l.row.items ≡ take l.k l.lists
