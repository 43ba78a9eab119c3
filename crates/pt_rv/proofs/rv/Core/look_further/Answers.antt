use Rattle.std.proofs.Common.{length, ap, arith}
use Rattle.pt_rv_laws.specs.RvActs.{State}
use Rattle.pt_rv.proofs.rv.Core.look_further.Goals as goal

pub look_at_process-requires : goal.look_at_process-requires
look_at_process-requires c = record {
  there = let v = ap (λ (s : State). length s.processes.plan.net.places) c.self.view_is in omega (arith, v, c.if-party-processes.true, c.processes.ensures.count);
  running = c.requires.running;
  rests = c.requires.rests;
}
