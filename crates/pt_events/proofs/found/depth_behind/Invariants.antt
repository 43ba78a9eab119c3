use Rattle.std.proofs.Common.{◌≡◌, max, drop}
use Rattle.pt_events.specs.Depths.{depth_after}
use Rattle.pt_events.proofs.found.depth_behind.Given as goal

abbrev pub invariant-loop-child : goal.invariant-loop-child
invariant-loop-child l = max l.depth (depth_after l.depths (drop l.child-index l.children)) ≡ depth_after l.depths l.children
