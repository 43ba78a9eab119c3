use Rattle.std.proofs.Common.{take}
use Rattle.pt_trees.specs.Recorded.{AreRecordLists}
use Rattle.pt_within.proofs.numbering.record_lists.Given as goal

abbrev pub invariant-loop-number : goal.invariant-loop-number
invariant-loop-number l = AreRecordLists l.count (take l.number l.recorded) l.lists.items
