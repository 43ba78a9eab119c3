use Rattle.std.proofs.Common.{◌≡◌, ◌++◌, length, map, take}
use Rattle.pt_places.specs.Views.{port_lists}
use Rattle.pt_places.proofs.joints.add_counts.Given as goal

abbrev pub invariant-loop-ports : goal.invariant-loop-ports
invariant-loop-ports l = l.counts.items ≡ l.fn.counts.items ++ map (λ ps. length ps) (port_lists (take l.ports-index l.lists))
