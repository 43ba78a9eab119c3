use Rattle.std.proofs.Common.{◌≡◌, [], replicate}
use Rattle.pt_rv.specs.Parties.{inputs_of}
use Rattle.pt_rv.proofs.fresh.inlets_of.Given as goal

abbrev pub invariant-loop : goal.invariant-loop
invariant-loop l = inputs_of l.fresh.items ≡ replicate l.counter []
