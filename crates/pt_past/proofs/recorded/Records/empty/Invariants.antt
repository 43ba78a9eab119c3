use Rattle.std.proofs.Common.{◌≡◌, map, take}
use Rattle.pt_past.specs.Recorded.{empty}
use Rattle.pt_past.proofs.recorded.Records.empty.Given as goal

abbrev pub invariant-loop-port : goal.invariant-loop-port
invariant-loop-port l = l.ports.items ≡ map empty (take l.port-index l.self)
