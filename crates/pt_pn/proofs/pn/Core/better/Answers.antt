use Rattle.std.proofs.Common.{arith}
use Rattle.pt_pn.proofs.StepLaws.{in-list, read-first, none-next}
use Rattle.pt_pn.proofs.BestLaws.{none-better}
use Rattle.pt_pn.proofs.pn.Core.better.Goals as goal

pub index-requires : goal.index-requires
index-requires c = let l = in-list c.self.inside c.self.invariant c.args.self.now c.self.view_is c.args.process c.requires.there in omega (arith, l, c.self.inside.processes.ok.0)

pub better_with-requires-clause-puts : goal.better_with-requires-clause-puts
better_with-requires-clause-puts c = read-first c.self.inside c.self.invariant c.args.self.now c.self.view_is c.args.process c.in-Some.channel c.index.result.now c.requires.there c.index.ensures c.in-Some.ensures

pub returns-in-None-clause-best : goal.returns-in-None-clause-best
returns-in-None-clause-best c = none-better c.args.self.now c.args.process c.args.best (none-next c.self.inside c.self.invariant c.args.self.now c.self.view_is c.args.process c.index.result.now c.requires.there c.index.ensures c.in-None.ensures) c.requires.best
