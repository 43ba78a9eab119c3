use Rattle.std.proofs.Common.{length, ap, arith}
use Rattle.pt_rv_laws.specs.RvActs.{State}
use Rattle.pt_rv.proofs.rv.Core.channel_of_process.Goals as goal

pub channel_to-requires : goal.channel_to-requires
channel_to-requires c = let e = ap (λ (s : State). length s.processes.plan.net.places) c.event-event.ensures in omega (arith, e, c.requires.there)
