use Rattle.pt_survey.specs.Survey.{tables_view}
use Rattle.pt_links.proofs.RecordSteps.{AreRecorded}
use Rattle.pt_links.proofs.records.Recorder.all_ports.Given as goal

abbrev pub invariant-loop-number : goal.invariant-loop-number
invariant-loop-number l = AreRecorded (tables_view l.self.tables.now) l.self.records.now l.number l.ports.items
