use Rattle.std.proofs.Common.{◌≡◌, take}
use Rattle.pt_next.proofs.sdf.portion.Given as goal

abbrev pub invariant-loop-token : goal.invariant-loop-token
invariant-loop-token l = l.portion ≡ take l.token-index l.token-items
