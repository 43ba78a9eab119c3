use Rattle.std.proofs.Common.{◌≡◌, map, rules}
use Rattle.pt_document.specs.View.{port_view}
use Rattle.pt_frames.specs.Views.{port_numbers}
use Rattle.pt_inequalities.specs.Inequalities.{with_ports, no_ports}
use Rattle.pt_frames.proofs.Parts.{ports-more}
use Rattle.pt_frames.proofs.port_numbers.PortNumbers.of_ports.Goals as goal

pub loop-number-preserved : goal.loop-number-preserved
loop-number-preserved c =
    let same : c.as_str.result.now ≡ c.index-ports-number.result.name = search rules in
    ports-more c.args.ports.now c.loop-number.number c.index-ports-number.result c.as_str.result.now (port_numbers c.loop-number.numbers) (port_numbers c.put.new.self) (with_ports no_ports 0 (map port_view c.args.ports.now)) c.loop-number-test.true c.index-ports-number.is same c.loop-number.invariant c.in_ok-put.ensures
