use Rattle.std.proofs.Common.{◌≡◌, take, drop}
use Rattle.pt_meaning.specs.Kahn.{firsts}
use Rattle.pt_firing.specs.IntInputs.{one_at_each}
use Rattle.pt_sdf_parts.proofs.numbers.first_numbers.Given as goal

abbrev pub invariant-loop-k : goal.invariant-loop-k
invariant-loop-k l = one_at_each l.row.items ≡ firsts (take l.k (drop l.from l.needs)) (take l.k (drop l.from l.channels.lists))
