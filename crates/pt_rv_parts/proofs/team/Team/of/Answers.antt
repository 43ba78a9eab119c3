use Rattle.std.proofs.Common.{ap, sym, ◌∙◌}
use Rattle.pt_rv_parts.specs.Team.{fires_in}
use Rattle.pt_rv_parts.proofs.team.Team.of.Goals as goal

pub invariant_of-result : goal.invariant_of-result
invariant_of-result c = c.in_ok-firing.ensures.flags ∙ ap fires_in (sym c.in_ok-firing.ensures.same)
