use Rattle.std.proofs.Common.{◌≡◌, length, vec_capacity, take}
use Rattle.pt_firing.proofs.outputs.copies.Given as goal

abbrev pub invariant-loop-tokens : goal.invariant-loop-tokens
invariant-loop-tokens l = (l.copies.items ≡ take l.tokens-index l.lists) × (vec_capacity l.copies ≡ length l.lists)
