use Rattle.std.proofs.Common.{◌≡◌, Some, map, take}
use Rattle.pt_job.proofs.inputs.present.Given as goal

abbrev pub invariant-loop-token : goal.invariant-loop-token
invariant-loop-token l = map Some l.present.items ≡ take l.token-index l.tokens
