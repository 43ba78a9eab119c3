use Rattle.std.proofs.Common.{◌<◌, length, IfSome}
use Rattle.pt_pn_work.specs.Least.{IsBest}
use Rattle.pt_pn.proofs.pn.Core.best_of_all.Given as goal

abbrev pub invariant-loop-process : goal.invariant-loop-process
invariant-loop-process l = record {
  best : IsBest l.self l.process l.best;
  within : IfSome l.best (λ best. best.0 < length l.self.network.plan.net.sources);
}
