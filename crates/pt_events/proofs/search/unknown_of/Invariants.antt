use Rattle.std.proofs.Common.{take}
use Rattle.pt_events.specs.Found.{AreKnown}
use Rattle.pt_events.proofs.search.unknown_of.Given as goal

abbrev pub invariant-loop-child : goal.invariant-loop-child
invariant-loop-child l = AreKnown l.known (take l.child-index l.children)
