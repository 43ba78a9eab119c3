use Rattle.pt_wakes.proofs.KeyLaws.{firsts, none-first}
use Rattle.pt_wakes.proofs.due.DueChildren.first.Goals as goal

pub returns-clause-first : goal.returns-clause-first
returns-clause-first c = firsts c.self.inside.depths.items c.self.inside.due.items c.self.inside.queue c.self.invariant c.args.self.now c.self.view_is c.first.result c.first.ensures.first

pub returns-clause-none : goal.returns-clause-none
returns-clause-none c = none-first c.self.inside.depths.items c.self.inside.due.items c.self.inside.queue c.self.invariant c.args.self.now c.self.view_is c.first.result c.first.ensures.none
