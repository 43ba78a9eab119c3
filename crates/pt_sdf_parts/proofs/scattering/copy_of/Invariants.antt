use Rattle.std.proofs.Common.{◌≡◌, take}
use Rattle.pt_sdf_parts.proofs.scattering.copy_of.Given as goal

abbrev pub invariant-loop-token : goal.invariant-loop-token
invariant-loop-token l = l.copy ≡ take l.token-index l.tokens
