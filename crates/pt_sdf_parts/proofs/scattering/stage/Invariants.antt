use Rattle.std.proofs.Common.{◌≡◌, ◌++◌, take}
use Rattle.pt_sdf_parts.proofs.scattering.stage.Given as goal

abbrev pub invariant-loop-token : goal.invariant-loop-token
invariant-loop-token l = l.staged.list ≡ l.fn.staged.list ++ take l.token-index l.tokens
