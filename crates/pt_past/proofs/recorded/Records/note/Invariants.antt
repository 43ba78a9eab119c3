use Rattle.std.proofs.Common.{◌≡◌}
use Rattle.pt_past.specs.Recorded.{noting}
use Rattle.pt_past.proofs.RecordedLaws.{changed_to}
use Rattle.pt_past.proofs.recorded.Records.note.Given as goal

abbrev pub invariant-loop-k : goal.invariant-loop-k
invariant-loop-k l = l.self-inside.ports.items ≡ changed_to (noting l.tag l.outputs) l.k l.fn.self
