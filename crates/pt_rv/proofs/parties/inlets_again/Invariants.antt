use Rattle.std.proofs.Common.{◌≡◌, take}
use Rattle.pt_rv.specs.Parties.{inputs_of}
use Rattle.pt_rv.proofs.parties.inlets_again.Given as goal

abbrev pub invariant-loop-inlet : goal.invariant-loop-inlet
invariant-loop-inlet l = inputs_of l.copies.items ≡ inputs_of (take l.inlet-index l.inlets)
