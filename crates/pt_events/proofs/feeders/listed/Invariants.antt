use Rattle.std.proofs.Common.{take}
use Rattle.pt_events.specs.Found.{AreFeeders}
use Rattle.pt_events.proofs.feeders.listed.Given as goal

abbrev pub invariant-loop-from : goal.invariant-loop-from
invariant-loop-from l = AreFeeders l.n (take l.from-index l.edges) l.lists.items
