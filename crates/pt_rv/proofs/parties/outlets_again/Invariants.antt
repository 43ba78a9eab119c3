use Rattle.std.proofs.Common.{◌≡◌, take}
use Rattle.pt_rv.proofs.parties.outlets_again.Given as goal

abbrev pub invariant-loop-outlet : goal.invariant-loop-outlet
invariant-loop-outlet l = l.copies.items ≡ take l.outlet-index l.outlets
