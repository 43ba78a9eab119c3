use Rattle.std.proofs.Common.{take}
use Rattle.pt_survey.specs.Survey.{ports_view}
use Rattle.pt_links.specs.Recorded.{sought_in, AreOutputs}
use Rattle.pt_links.proofs.records.Outputs.of.Given as goal

abbrev pub invariant-loop-port : goal.invariant-loop-port
invariant-loop-port l = AreOutputs (sought_in l.records (ports_view (take l.port-index l.ports))) l.outputs
