use Rattle.std.proofs.Common.{◌≡◌, ◌+◌, take}
use Rattle.pt_meaning.specs.Running.{total}
use Rattle.pt_rv_inside.proofs.met.are_enough.Given as goal

abbrev pub invariant-loop-count : goal.invariant-loop-count
invariant-loop-count l = l.rest + total (take l.count-index l.places) ≡ l.channels
