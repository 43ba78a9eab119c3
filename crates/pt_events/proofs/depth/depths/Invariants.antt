use Rattle.std.proofs.Common.{◌-◌, length}
use Rattle.pt_events.specs.Found.{IsFound, known_count}
use Rattle.pt_events.proofs.depth.depths.Given as goal

abbrev pub invariant-children : goal.invariant-children
invariant-children l = IsFound l.feeders l.found.known.items l.found.depths.items

abbrev pub decreases-children : goal.decreases-children
decreases-children l = length l.found.known.items - known_count l.found.known.items
