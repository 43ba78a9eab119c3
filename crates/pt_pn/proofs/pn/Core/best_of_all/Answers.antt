use Rattle.std.proofs.Common.{length, arith}
use Rattle.pt_pn_work.proofs.LeastLaws.{none-best}
use Rattle.pt_pn.proofs.BestLaws.{best-of-all}
use Rattle.pt_pn.proofs.StepLaws.{puts-long, capacity-long, list-in-net}
use Rattle.pt_pn.proofs.pn.Core.best_of_all.Goals as goal

pub loop-process-init : goal.loop-process-init
loop-process-init c = record { best = none-best c.args.self.now; within = tt }

pub better-best-requires : goal.better-best-requires
better-best-requires c = record {
  there = list-in-net c.self.inside c.self.invariant c.args.self.now c.self.view_is c.loop-process.process (omega (arith, c.loop-process-test.true, c.len-process-end.ensures, c.self.inside.processes.ok.0));
  best = c.loop-process.invariant.best;
  within = c.loop-process.invariant.within;
}

pub loop-process-preserved : goal.loop-process-preserved
loop-process-preserved c = record { best = c.better-best.ensures.best; within = c.better-best.ensures.within }

pub returns-clause-best : goal.returns-clause-best
returns-clause-best c =
    let l = puts-long c.self.inside c.self.invariant c.args.self.now c.self.view_is in
    best-of-all c.args.self.now c.loop-process.best c.loop-process.process (length c.args.self.now.network.plan.net.sources) (omega (arith, l, c.loop-process-test.false, c.len-process-end.ensures, c.self.inside.processes.ok.0)) (capacity-long c.self.inside c.self.invariant c.args.self.now c.self.view_is) c.loop-process.invariant.within c.loop-process.invariant.best

pub returns-clause-there : goal.returns-clause-there
returns-clause-there c = c.loop-process.invariant.within
