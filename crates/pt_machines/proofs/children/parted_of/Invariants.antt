use Rattle.std.proofs.Common.{map, take}
use Rattle.pt_net.specs.Net.{transparent_view}
use Rattle.pt_machines.proofs.ChildLaws.{AreMarked}
use Rattle.pt_machines.proofs.children.parted_of.Given as goal

abbrev pub invariant-loop-composite : goal.invariant-loop-composite
invariant-loop-composite l = AreMarked l.count (map transparent_view (take l.composite-index l.composites)) l.parted.items
