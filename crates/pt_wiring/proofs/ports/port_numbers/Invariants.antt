use Rattle.std.proofs.Common.{take}
use Rattle.pt_wiring.specs.Ports.{ArePortNumbers, Count}
use Rattle.pt_wiring.proofs.ports.port_numbers.Given as goal

abbrev pub invariant-loop-port : goal.invariant-loop-port
invariant-loop-port l = record {
  counts : Count (take l.port-index l.ports) l.counts;
  numbers : ArePortNumbers (take l.port-index l.ports) l.numbers;
}
