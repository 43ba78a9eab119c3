use Rattle.std.proofs.Common.{◌≡◌, take, map}
use Rattle.pt_trees.specs.Recorded.{recorded_at}
use Rattle.pt_within.proofs.records.records_of.Given as goal

abbrev pub invariant-loop-number : goal.invariant-loop-number
invariant-loop-number l = l.ports.items ≡ map (recorded_at l.net l.entity) (take l.number-index l.numbers)
