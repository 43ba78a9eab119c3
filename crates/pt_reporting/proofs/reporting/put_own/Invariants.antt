use Rattle.std.specs.Vec.Iter.{into_iter_items}
use Rattle.pt_trees.specs.Ports.{filled}
use Rattle.pt_reporting.proofs.Walking.{Filling}
use Rattle.pt_reporting.proofs.reporting.put_own.Given as goal

abbrev pub invariant-loop-port : goal.invariant-loop-port
invariant-loop-port l =
    (goal.iterator-loop-port).can_next l.port-iterator ×
    (goal.iterator-loop-port).is_finite l.port-iterator ×
    Filling (into_iter_items l.port-iterator) l.traces.items (filled l.fn.ports.items l.fn.traces.items)
