use Rattle.std.proofs.Common.{◌≡◌, length, vec_capacity, take}
use Rattle.pt_firing.proofs.tokens.copies.Given as goal

abbrev pub invariant-loop-token : goal.invariant-loop-token
invariant-loop-token l = (l.copies.items ≡ take l.token-index l.tokens) × (vec_capacity l.copies ≡ length l.tokens)
