use Rattle.std.proofs.Common.{ap, sym, ◌∙◌}
use Rattle.pt_rv_parts.specs.Team.{fires_in}
use Rattle.pt_rv_parts.proofs.team.Team.copy.Goals as goal

pub invariant_of-result : goal.invariant_of-result
invariant_of-result c = c.in_ok-firing.ensures ∙ c.self.invariant ∙ ap fires_in (sym (c.in_ok-processes.ensures ∙ c.deref.ensures.value))
