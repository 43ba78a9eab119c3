use Rattle.std.proofs.Common.{is_none}
use Rattle.std.specs.List.{count_by}
use Rattle.pt_events.specs.Found.{IsWalk}
use Rattle.pt_events.proofs.walk.loop_behind.Given as goal

abbrev pub invariant-steps : goal.invariant-steps
invariant-steps l = IsWalk l.feeders l.known l.path.items l.places.items l.child

abbrev pub decreases-steps : goal.decreases-steps
decreases-steps l = count_by is_none l.places.items
