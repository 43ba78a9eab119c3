use Rattle.pt_typing.specs.Least.{assignment}
use Rattle.pt_elaboration.specs.Resolved.{port_typing}
use Rattle.pt_elaboration.proofs.PortTypes.{type-more}
use Rattle.pt_elaboration.proofs.starts.types_of.Goals as goal

pub loop-port-preserved : goal.loop-port-preserved
loop-port-preserved c =
    type-more (port_typing (assignment c.args.typing.now)) c.args.number c.loop-port.port c.args.ports.now c.loop-port.types.items c.push.new.self.items c.in_ok-ty.field-0 c.loop-port-test.true c.in_ok-push.ensures.items c.in_ok-ty.ensures c.loop-port.invariant
