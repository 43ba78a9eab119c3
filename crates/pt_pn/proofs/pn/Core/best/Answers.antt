use Rattle.std.proofs.Common.{◌<◌, length, IfSome, ap, subst, ◌∙◌}
use Rattle.pt_pn_laws.specs.State.{least_full}
use Rattle.pt_pn_work.specs.Core.{State}
use Rattle.pt_pn.proofs.pn.Core.best.Goals as goal

pub returns-in-Some-clause-same : goal.returns-in-Some-clause-same
returns-in-Some-clause-same c = c.best_noted.ensures.same ∙ c.loop.invariant

pub returns-in-Some-clause-best : goal.returns-in-Some-clause-best
returns-in-Some-clause-best c = c.in-Some.ensures.best ∙ ap (λ (s : State). least_full s) c.loop.invariant

pub returns-in-Some-clause-there : goal.returns-in-Some-clause-there
returns-in-Some-clause-there c = subst (λ (s : State). IfSome c.in-Some.best (λ best. best.0 < length s.network.plan.net.sources)) c.loop.invariant c.in-Some.ensures.there

pub loop-preserved : goal.loop-preserved
loop-preserved c = c.best_noted.ensures.same ∙ c.loop.invariant

pub returns-clause-same : goal.returns-clause-same
returns-clause-same c = c.loop.invariant

pub returns-clause-best : goal.returns-clause-best
returns-clause-best c = c.best_of_all.ensures.best ∙ ap (λ (s : State). least_full s) c.loop.invariant

pub returns-clause-there : goal.returns-clause-there
returns-clause-there c = subst (λ (s : State). IfSome c.best_of_all.result (λ best. best.0 < length s.network.plan.net.sources)) c.loop.invariant c.best_of_all.ensures.there
