use Rattle.std.proofs.Common.{arith}
use Rattle.pt_past.specs.Recorded.{recording}
use Rattle.pt_past.proofs.RecordedLaws.{changed-step}
use Rattle.pt_past.proofs.recorded.Records.record.Goals as goal

pub loop-k-preserved : goal.loop-k-preserved
loop-k-preserved c = changed-step recording c.loop-k.k c.args.self.now c.loop-k.self-inside.ports.items c.index_mut-port.result.now c.record.new.self c.loop-k.invariant (grind (arith, c.loop-k-test.true, c.len-k-end.ensures, c.self.view_is)) c.index_mut-port.ensures.value c.record.ensures
