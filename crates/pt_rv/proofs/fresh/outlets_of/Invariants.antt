use Rattle.std.proofs.Common.{◌≡◌, [], replicate}
use Rattle.pt_rv.specs.Parties.{outputs_of}
use Rattle.pt_rv.proofs.fresh.outlets_of.Given as goal

abbrev pub invariant-loop : goal.invariant-loop
invariant-loop l = outputs_of l.fresh.items ≡ replicate l.counter []
