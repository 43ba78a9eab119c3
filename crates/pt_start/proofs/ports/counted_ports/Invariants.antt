use Rattle.std.proofs.Common.{◌≡◌, ◌++◌, drop, map}
use Rattle.std.specs.List.{enumerate_from}
use Rattle.pt_document.specs.View.{port_view}
use Rattle.pt_start.specs.Counts.{port_with}
use Rattle.pt_start.proofs.ports.counted_ports.Given as goal

abbrev pub invariant-loop-number : goal.invariant-loop-number
invariant-loop-number l = l.counted.items ++ map (port_with l.counts) (enumerate_from l.number (map port_view (drop l.number l.ports))) ≡ map (port_with l.counts) (enumerate_from 0 (map port_view l.ports))
