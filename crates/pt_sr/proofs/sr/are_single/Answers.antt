use Rattle.std.proofs.Common.{◌∙◌, sym, arith}
use Rattle.pt_sr.proofs.SingleLaws.{single-next, single-not, single-end}
use Rattle.pt_sr.proofs.sr.are_single.Goals as goal

pub returns-then-list-gt1 : goal.returns-then-list-gt1
returns-then-list-gt1 c = sym (c.loop-port.invariant ∙ single-not c.args.outputs.now c.loop-port.port (omega (arith, c.loop-port-test.true, c.ports-port-end.ensures)) c.list.result.now c.list.ensures c.if-list-gt1.true)

pub loop-port-preserved : goal.loop-port-preserved
loop-port-preserved c = c.loop-port.invariant ∙ single-next c.args.outputs.now c.loop-port.port (omega (arith, c.loop-port-test.true, c.ports-port-end.ensures)) c.list.result.now c.list.ensures c.if-list-gt1.false

pub returns : goal.returns
returns c = sym (c.loop-port.invariant ∙ single-end c.args.outputs.now c.loop-port.port (omega (arith, c.loop-port-test.false, c.ports-port-end.ensures)))
