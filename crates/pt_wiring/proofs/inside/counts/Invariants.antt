use Rattle.std.proofs.Common.{◌≡◌, take}
use Rattle.pt_wiring.specs.Channels.{counts_at}
use Rattle.pt_wiring.proofs.inside.counts.Given as goal

abbrev pub invariant-loop-child : goal.invariant-loop-child
invariant-loop-child l = l.counts ≡ counts_at l.arrivals (take l.child-index l.children)
