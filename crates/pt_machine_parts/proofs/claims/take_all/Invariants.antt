use Rattle.std.proofs.Common.{length}
use Rattle.pt_machine_parts.specs.Claims.{IsTaken}
use Rattle.pt_machine_parts.proofs.claims.take_all.Given as goal

abbrev pub invariant-loop-claim : goal.invariant-loop-claim
invariant-loop-claim l = IsTaken (length l.fn.taken.items) l.claims l.claim-index l.taken.items
