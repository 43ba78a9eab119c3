use Rattle.pt_links.proofs.RecordSteps.{outputs_next}
use Rattle.pt_links.proofs.records.Outputs.of.Goals as goal

pub loop-port-preserved : goal.loop-port-preserved
loop-port-preserved c =
    let h = c.in_ok-add.ensures in
    let w = outputs_next c.args.records.now c.args.ports.now c.loop-port.port-index c.port-item.result c.loop-port.outputs.paths.items c.add.new.self.paths.items c.loop-port.outputs.ports.items c.add.new.self.ports.items c.loop-port-test.true c.port-item.is h.paths h.ports c.loop-port.invariant.paths c.loop-port.invariant.ports in
    record { paths = w.0; ports = w.1 }
