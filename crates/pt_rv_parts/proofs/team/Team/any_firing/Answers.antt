use Rattle.std.proofs.Common.{◌≡◌, ◌<◌, false, true, get_or, length, ap, ◌∙◌}
use Rattle.pt_meaning.specs.Process.{Fires}
use Rattle.pt_rv_work.specs.Core.{nobody, next_of}
use Rattle.pt_rv_parts.specs.Team.{fires_in}
use Rattle.pt_rv_parts.proofs.TeamLaws.{where-some, flag-there, flag-fires, flag-rests}
use Rattle.pt_rv_parts.proofs.team.Team.any_firing.Goals as goal

pub returns-clause-there : goal.returns-clause-there
returns-clause-there c = where-some c.any.result (λ n. n < length c.self.inside.firing) (λ n. n < length c.args.self.now) (λ n l. flag-there c.args.self.now c.self.inside.firing n (c.self.invariant ∙ ap fires_in c.self.view_is) l) c.any.ensures.there

pub returns-clause-fires : goal.returns-clause-fires
returns-clause-fires c = where-some c.any.result (λ n. get_or c.self.inside.firing n false ≡ true) (λ n. next_of (get_or c.args.self.now n nobody) ≡ Fires) (λ n h. flag-fires c.args.self.now c.self.inside.firing n (c.self.invariant ∙ ap fires_in c.self.view_is) h) c.any.ensures.set

pub returns-clause-rests : goal.returns-clause-rests
returns-clause-rests c = λ none. flag-rests c.args.self.now c.self.inside.firing (c.self.invariant ∙ ap fires_in c.self.view_is) (c.any.ensures.none none)
