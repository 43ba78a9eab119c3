use Rattle.std.proofs.Common.{◌≡◌, ◌∷◌, length, take}
use Rattle.pt_scopes.proofs.scopes.Scopes.chain_inside.Given as goal

abbrev pub invariant-loop-number : goal.invariant-loop-number
invariant-loop-number l = l.inside.items ≡ length l.self.frames.items ∷ take l.number-index l.chain
