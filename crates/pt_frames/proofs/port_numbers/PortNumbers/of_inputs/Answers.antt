use Rattle.std.proofs.Common.{map}
use Rattle.pt_document.specs.View.{port_view}
use Rattle.pt_frames.specs.Views.{port_numbers}
use Rattle.pt_inequalities.specs.Inequalities.{with_inputs, no_ports}
use Rattle.pt_frames.proofs.Parts.{own-more}
use Rattle.pt_frames.proofs.port_numbers.PortNumbers.of_inputs.Goals as goal

pub loop-number-preserved : goal.loop-number-preserved
loop-number-preserved c =
    own-more c.args.ports.now c.loop-number.number c.index-ports-number.result (port_numbers c.loop-number.numbers) (port_numbers c.put_input.new.self) (with_inputs no_ports 0 (map port_view c.args.ports.now)) c.loop-number-test.true c.index-ports-number.is c.loop-number.invariant c.in_ok-put_input.ensures
