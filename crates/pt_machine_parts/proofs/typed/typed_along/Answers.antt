use Rattle.std.proofs.Common.{map}
use Rattle.pt_document.specs.View.{port_view}
use Rattle.pt_types.specs.Entry.{typed_entry}
use Rattle.pt_typing.specs.Least.{assignment}
use Rattle.pt_machine.specs.Typed.{typed_if, typed_along}
use Rattle.pt_machine_parts.proofs.ListLaws.{kept-more, kept-all}
use Rattle.pt_machine_parts.proofs.typed.typed_along.Goals as goal

pub loop-number-preserved : goal.loop-number-preserved
loop-number-preserved c =
    kept-more (typed_if c.args.direction (assignment c.args.typing.now) c.args.entity) port_view c.args.ports.now c.loop-number.number c.index-ports-number.result (map typed_entry c.loop-number.list.items) (map typed_entry c.add_port.new.list.items) (typed_along c.args.direction (assignment c.args.typing.now) c.args.entity (map port_view c.args.ports.now)) c.loop-number-test.true c.index-ports-number.is c.loop-number.invariant c.in_ok-add_port.ensures

pub returns : goal.returns
returns c =
    kept-all (typed_if c.args.direction (assignment c.args.typing.now) c.args.entity) port_view c.args.ports.now c.loop-number.number (map typed_entry c.loop-number.list.items) (typed_along c.args.direction (assignment c.args.typing.now) c.args.entity (map port_view c.args.ports.now)) c.loop-number-test.false c.loop-number.invariant
