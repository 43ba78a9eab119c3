use Rattle.std.proofs.Common.{◌+◌, List, [], subst, sym}
use Rattle.pt_net.specs.declared.net.NetPort.{NetPort}
use Rattle.pt_survey.specs.Survey.{tables_view}
use Rattle.pt_links.proofs.RecordSteps.{AreRecorded, recorded_more, distinct}
use Rattle.pt_links.proofs.records.Recorder.all_ports.Goals as goal

pub loop-number-preserved : goal.loop-number-preserved
loop-number-preserved c =
    let t = tables_view c.args.self.now.tables.now in
    let records = c.args.self.now.records.now in
    let n = c.loop-number.number in
    let h = c.in_ok-port.ensures.ok in
    subst (λ (ps : List NetPort). AreRecorded t records (n + 1) ps) (sym {A = List NetPort} c.in_ok-push.ensures.items) (recorded_more t records n [] c.loop-number.ports.items c.in_ok-port.field-0 c.loop-number-test.true h.first h.named c.loop-number.invariant)

pub returns-clause-distinct : goal.returns-clause-distinct
returns-clause-distinct c = distinct (tables_view c.args.self.now.tables.now) c.args.self.now.records.now c.loop-number.number c.loop-number.ports.items c.loop-number-test.false c.loop-number.invariant
