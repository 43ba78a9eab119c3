use Rattle.std.proofs.Common.{◌≡◌, map}
use Rattle.std.specs.List.{range_with_len}
use Rattle.pt_gen.specs.Generated.{relation_name}
use Rattle.pt_gen.proofs.chain.relations.Given as goal

abbrev pub invariant-loop-i : goal.invariant-loop-i
invariant-loop-i l = l.relations.items ≡ map (λ i. record { name = relation_name i }) (range_with_len 0 l.i)
