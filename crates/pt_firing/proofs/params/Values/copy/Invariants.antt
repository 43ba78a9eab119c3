use Rattle.std.proofs.Common.{◌≡◌, take}
use Rattle.pt_firing.proofs.params.Values.copy.Given as goal

abbrev pub invariant-loop-name : goal.invariant-loop-name
invariant-loop-name l = l.values.items ≡ take l.name-index l.name-items
