use Rattle.std.proofs.Common.{length}
use Rattle.pt_events.proofs.search.next_child.Given as goal

abbrev pub decreases-loop-child : goal.decreases-loop-child
decreases-loop-child l = length l.hints.ready.items
