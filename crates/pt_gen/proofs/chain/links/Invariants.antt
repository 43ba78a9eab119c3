use Rattle.std.proofs.Common.{◌≡◌, flat_map}
use Rattle.std.specs.List.{range_with_len}
use Rattle.pt_gen.specs.Generated.{joint}
use Rattle.pt_gen.proofs.chain.links.Given as goal

abbrev pub invariant-loop-i : goal.invariant-loop-i
invariant-loop-i l = l.links.items ≡ flat_map (joint l.n) (range_with_len 0 l.i)
